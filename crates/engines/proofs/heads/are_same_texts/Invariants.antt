use Rattle.std.proofs.Common.{◌≡◌, map, take}
use Rattle.serde_json.specs.View.{view}
use Rattle.profile_json.specs.Lookup.{text}
use Rattle.engines.proofs.heads.are_same_texts.Given as goal

abbrev pub invariant-loop-i : goal.invariant-loop-i
invariant-loop-i l = take l.i (map (λ v. text (view v)) l.a) ≡ take l.i (map (λ v. text (view v)) l.b)
