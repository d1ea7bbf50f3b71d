use Rattle.std.proofs.Common.{◌≤◌, ◌+◌, ◌++◌, ℕ, List, length, sym, ap, ◌∙◌, subst, arith, vec_len}
use Rattle.std.specs.Vec.{vec_capacity}
use Rattle.std.specs.List.{list_all}
use Rattle.texts.specs.Digits.{is_hexadecimal_digit}
use Rattle.script.specs.Pairs.{spelled_bytes}
use Rattle.script.proofs.PairLaws.{digits-pair, length-pair, pair-more, rest-pair}
use Rattle.script.proofs.digits.Hex.put_into.Goals as goal

pub pair-preserved : goal.pair-preserved
pair-preserved c =
    let left = c.pair.left.now in
    let two = c.in-len2-up.len_at_least in
    let new = c.push_reserved.new.self in
    let Fits : List ℕ → Type 0 = λ t. vec_len new + length (spelled_bytes t) ≤ vec_capacity new in
    record {
      spelled = ap (λ t. new.items ++ spelled_bytes t) (rest-pair left)
          ∙ pair-more c.pair.out.items new.items left _ c.digit.result c.digit-in-len2-up.result two c.digit.ensures c.digit-in-len2-up.ensures
          c.push_reserved.ensures.items c.pair.invariant.spelled;
      digits = ap (list_all is_hexadecimal_digit) (rest-pair left) ∙ digits-pair left two c.pair.invariant.digits;
      room = subst Fits (sym (rest-pair left))
          (omega (arith, length-pair left two, c.pair.invariant.room, c.push_reserved.ensures.len, c.push_reserved.ensures.capacity));
      same_room = c.push_reserved.ensures.capacity ∙ c.pair.invariant.same_room;
    }
