use Rattle.cm_type_list.proofs.types.Types.+chain_len.Given as goal

abbrev pub decreases-chain_len : goal.decreases-chain_len
decreases-chain_len l = l.levels
