use Rattle.std.proofs.Common.{ℕ, take}
use Rattle.differ.specs.Cells.{AreApart, IsMet}
use Rattle.differ.specs.inner.Branch.{AllBegin}
use Rattle.differ.proofs.begun.add_apart.Given as goal

abbrev pub invariant-loop-number : goal.invariant-loop-number
invariant-loop-number l = record {
  begin : (high rest : ℕ) → AllBegin high rest l.initial.list.items → AllBegin high rest l.more → AllBegin high rest l.list.items;
  stay : (u : ℕ) → IsMet l.conds l.initial.list.items u → IsMet l.conds l.list.items u;
  come : (u : ℕ) → IsMet l.conds (take l.number-index l.more) u → IsMet l.conds l.list.items u;
  apart : AreApart l.conds l.initial.list.items → AreApart l.conds l.list.items;
}
