use Rattle.std.proofs.Common.{ap, ◌∙◌}
use Rattle.std.specs.Prelude.{fold}
use Rattle.wr_filing.specs.Filing.{out_of}
use Rattle.wr_filing.proofs.Outs.{unfiled_is}
use Rattle.wr_filing.proofs.remove_from_folder.unfiled.Goals as goal

pub returns : goal.returns
returns c = c.in_ok-out.ensures
    ∙ (ap (λ q. fold (λ d e. out_of c.args.n d e.1) q c.args.folders.now) c.in_ok-begun.ensures ∙ unfiled_is c.args.state.now c.args.n c.args.folders.now c.requires.folders)
