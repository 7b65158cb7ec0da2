use denote.Param.Send.{sendable}
use Rattle.std.proofs.Common.{rules, refl, sym, ap, subst, inl, inr, ◌∙◌}
use Rattle.outside.specs.Hosts.{Begins}
use Rattle.share_laws.proofs.Crosses.{State-send, State-sync}
use Rattle.cmis_program.proofs.Moments.{of_first_word}
use Rattle.cmis_kept.proofs.Stopping.{stopped, at_disk}
use Rattle.cmis_kept.proofs.running.run.Goals as goal

pub returns-in-Err : goal.returns-in-Err
returns-in-Err g c = record {
  ran = rw c.unserved.ensures (record {
    untaken = refl;
    moment = c.moment_of_word-moment.result;
    first = of_first_word _ _ _ _ c.moment_of_word-moment.ensures.value c.now.ensures.word;
    left = c.in-Err.ensures.any_moment;
    why = inl (refl, stopped _ _ _ _ _ _ _ _ _ _ c.in-Err.stop c.in-Err.ensures.stops c.in-Err.ensures.untouched c.in-Err.ensures.fault c.stopped-status.ensures);
  });
}

pub returns-in-Err-begin : goal.returns-in-Err-begin
returns-in-Err-begin g c = record {
  ran = rw c.unserved-in-Err-begin.ensures (record {
    untaken = c.in-Err-begin.ensures.left;
    moment = c.moment_of_word-moment.result;
    first = of_first_word _ _ _ _ c.moment_of_word-moment.ensures.value c.now.ensures.word;
    left = λ t. at_disk _ g.K.Disk.told _ _ _ (c.disk_of.ensures.disk ∙ c.in-Ok.ensures.first.0) (c.in-Ok.ensures.begun t).since;
    why = inr (refl, (c.in-Err-begin.ensures.begins, inl (refl, search rules, search rules)));
  });
}

pub serve-requires-send-M-State : goal.serve-requires-send-M-State
serve-requires-send-M-State g c κs within = search (State-send, sendable) depth 40

pub serve-requires-sync-M-State : goal.serve-requires-sync-M-State
serve-requires-sync-M-State g c κs within = search (State-sync, sendable) depth 40

pub returns-in-Ok-serve : goal.returns-in-Ok-serve
returns-in-Ok-serve g c = record {
  ran = rw c.over-over.ensures.same.0 (rw c.over-over.ensures.same.1 (rw c.over-over.ensures.same.2 (
    record {
      moment = c.moment_of_word-moment.result;
      first = of_first_word _ _ _ _ c.moment_of_word-moment.ensures.value c.now.ensures.word;
      opening = c.in-Ok.begun.0;
      well = c.step-step.ensures.well;
      begun = c.in-Ok.begun.1.begun;
      offset = c.in-Ok.begun.1.offset;
      begins = c.in-Ok.ensures.begun;
      sure = c.in-Ok-serve.ensures.closed.sure;
      closed = rw (sym c.in-Ok-begin.ensures.left) c.in-Ok-serve.ensures.closed.closed;
      kept = λ t. c.over-over.ensures.kept t c.in-Ok.begun.1 c.in-Ok-serve.closing.last.journal c.in-Ok-serve.ensures.closed.sure c.in-Ok-serve.ensures.closed.stand;
      failed = λ some. c.in-Ok-serve.ensures.closed.broken (c.over-over.ensures.unkept.0 some);
      alike = c.replies_of_seen.ensures c.in-Ok.begun.0 c.step-step.ensures.well;
    },
    record {
      begun = g.H.Host.told c.begin.new.self;
      later = search rules;
      begins = c.in-Ok-begin.ensures.begins;
      taken = rw (sym c.in-Ok-begin.ensures.left) c.in-Ok-serve.ensures.taken;
      ends = c.in-Ok-serve.ensures.end;
    },
    c.over-over.ensures.status,
  )));
}

pub returns : goal.returns
returns g c = record {
  ran = rw c.unserved-in-Err-serve.ensures (record {
    untaken = ap (λ h. g.H.Host.left h) c.in-Err-serve.ensures.unasked ∙ c.in-Ok-begin.ensures.left;
    moment = c.moment_of_word-moment.result;
    first = of_first_word _ _ _ _ c.moment_of_word-moment.ensures.value c.now.ensures.word;
    left = tt;
    why = inr (refl, (subst (λ h. Begins (g.H.Host.told h) c.args.asked.serve.port c.args.asked.serve.links) (sym c.in-Err-serve.ensures.unasked) c.in-Ok-begin.ensures.begins, inr (refl, refl)));
  });
}
