use Rattle.std.proofs.Common.{◌≡◌, ◌<◌, ◌^◌, List, ℕ, subst, sym}
use Rattle.std.specs.List.{All, dedup}
use Rattle.std.proofs.Math.Dec.{eqb}
use Rattle.std.proofs.lemmas.List.Filters.{All-dedup, dedup_is}
use Rattle.std.proofs.lemmas.List.Sorted.{All-permutation}
use Rattle.rule_compile.specs.inner.Left.{AreStarts}
use Rattle.rule_compile.proofs.StartLaws.{are_starts}
use Rattle.rule_compile.proofs.starts.starts_of.Goals as goal

pub returns : goal.returns
returns c =
    let sorted : List ℕ = c.sort.new.self.items in
    let is : c.dedup.new.self.items ≡ dedup eqb sorted = dedup_is eqb sorted c.dedup.new.self.items c.dedup.ensures.filtered in
    let words : All (λ start. start < 2 ^ 32) (dedup eqb sorted) =
    All-dedup eqb (λ start. start < 2 ^ 32) sorted
    (All-permutation (λ start. start < 2 ^ 32) c.in_ok-starts.starts.items sorted c.in_ok-sort.ensures.permutation c.in_ok-starts.ensures.words) in
    subst (AreStarts c.args.rules.now c.args.subject) (sym is)
    (are_starts c.args.rules.now c.args.subject c.in_ok-starts.starts.items sorted c.in_ok-sort.ensures.permutation
    c.in_ok-sort.ensures.sorted c.in_ok-starts.ensures.zero c.in_ok-starts.ensures.turns words)
