-- Answers to more questions.
use Rattle.std.proofs.Common.{◌≡◌, ℕ, ◌+◌, ◌<◌, List, [], ◌∷◌, ◌++◌, length, get_or, take, sym, ◌∙◌, ap, subst}
use Rattle.std.proofs.lemmas.List.{map-append, take_more}
use Rattle.std.proofs.lemmas.List.Elements.{All-push}
use Rattle.profile.specs.Policy.{Policy}
use Rattle.review.specs.Judged.{AreJudged, IsAnswer}
use Rattle.review.specs.declared.asked.Asked.{Asked}
use Rattle.review.specs.declared.judged.Answer.{Answer}
use Rattle.review.specs.declared.judged.Judged.{Judged}

pub judged_more : (p : Policy) (asked : List Asked) (list : List Judged) (j : Judged) → AreJudged p asked list
    → IsAnswer p j.asked j.answer → AreJudged p (asked ++ j.asked ∷ []) (list ++ j ∷ [])
judged_more p asked list j are is = record {
  of_all = map-append (λ (x : Judged). x.asked) list (j ∷ []) ∙ ap (λ l. l ++ j.asked ∷ []) are.of_all;
  are = All-push (λ (x : Judged). IsAnswer p x.asked x.answer) list j are.are is;
}

pub judged_step : (p : Policy) (asked : List Asked) (i : ℕ) (d : Asked) (list new : List Judged) (answer : Answer) → i < length asked
    → AreJudged p (take i asked) list → IsAnswer p (get_or asked i d) answer
    → new ≡ list ++ record { asked = get_or asked i d; answer = answer } ∷ [] → AreJudged p (take (i + 1) asked) new
judged_step p asked i d list new answer within are is added =
    let j : Judged = record { asked = get_or asked i d; answer = answer } in
    let more : AreJudged p (take i asked ++ j.asked ∷ []) (list ++ j ∷ []) = judged_more p (take i asked) list j are is in
    subst (λ xs. AreJudged p (take (i + 1) asked) xs) (sym added)
    (subst (λ xs. AreJudged p xs (list ++ j ∷ [])) (sym (take_more asked i d within)) more)
