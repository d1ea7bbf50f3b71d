use Rattle.std.proofs.Common.{◌≡◌, ◌++◌, List, ℕ, Vec, Global, ap, inl, subst, sym, ◌∙◌}
use Rattle.std.specs.Prelude.{Option, Some, option_map}
use denote.Ref.{Bor}
use Rattle.wording.proofs.Results.{if_ok_weaker}
use Rattle.section.specs.Remarks.{IsRemark, line_of}
use Rattle.show.specs.Remarked.{IsRemarkOn}
use Rattle.show.proofs.remarked.remark_on.Goals as goal

pub returns-in-Some : goal.returns-in-Some
returns-in-Some c =
    let bytes = c.args.bytes.items in
    let taken = c.in_ok-taken.taken in
    let line = c.in-Some.line.now in
    let same : line_of taken.kind ≡ Some line =
    sym c.line_of.ensures ∙ ap (option_map (λ (l : Bor (List ℕ)). l.now)) c.in-Some.is in
    let is_remark = subst (λ (o : Option (List ℕ)). IsRemark c.args.native bytes o) same c.in_ok-taken.ensures.line in
    if_ok_weaker (λ (text : Vec ℕ Global). text.items ≡ line ++ c.deref.result.now)
    (λ (text : Vec ℕ Global). IsRemarkOn c.args.native c.args.name.now bytes text.items)
    (λ text h. inl (
      line,
      is_remark,
      (taken.unlike.items, c.in_ok-taken.ensures.unlike, h ∙ ap (λ (l : List ℕ). line ++ l) c.deref.ensures.value),
    ))
    c.with_unlike.result c.with_unlike.ensures
