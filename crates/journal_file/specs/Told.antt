-- What is seen of a journal, and of one that is being opened.
use Rattle.std.specs.Prelude.{ℕ}

-- a journal: its disk, and the place of its closed gate
pub record JournalTold (K : Type 0) : Type 0 where
  pub disk : K
  pub end : ℕ

-- a journal that is being opened: its disk, the place of the next gate, and how many bytes stand from there on
pub record OpeningTold (K : Type 0) : Type 0 where
  pub disk : K
  pub place : ℕ
  pub left : ℕ
