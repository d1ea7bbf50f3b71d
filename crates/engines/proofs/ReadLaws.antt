-- Words that are read one by one.
use Rattle.std.proofs.Common.{◌≡◌, ℕ, ◌+◌, ◌<◌, ◌≤◌, List, [], ◌∷◌, length, map, drop, drop-cons, get_or, add-one, ap, refl, sym, ◌∙◌}
use Rattle.std.proofs.lemmas.List.{drop_all}
use Rattle.std.specs.Prelude.{Some, None, option_and_then}
use denote.Ref.{Bor}
use Rattle.engines.specs.declared.words.Words.{Words}
use Rattle.engines.specs.inner.Reading.{with_all, with_next, asked, finished, no_words}

abbrev pub now_of : Bor (List ℕ) → List ℕ
now_of word = word.now

-- nothing comes of words behind one that asks for nothing
pub none_after : (words : List (List ℕ)) → with_all None words ≡ None
none_after [] = refl
none_after (word ∷ rest) = none_after rest

-- what comes of the words from a place on
pub goes_on : (words : List (Bor (List ℕ))) (i : ℕ) (d : Bor (List ℕ)) (so_far : Words) → i < length words
    → with_all (Some so_far) (map now_of (drop i words))
    ≡ with_all (with_next so_far (get_or words i d).now) (map now_of (drop (i + 1) words))
goes_on words i d so_far lt =
    let split : drop i words ≡ get_or words i d ∷ drop (i + 1) words = rw (add-one) (drop-cons words i d lt) in
    ap (λ ws. with_all (Some so_far) (map now_of ws)) split

-- what is asked, once all are read
pub asked_at_end : (words : List (Bor (List ℕ))) (i : ℕ) (so_far : Words) → length words ≤ i
    → with_all (Some no_words) (map now_of words) ≡ with_all (Some so_far) (map now_of (drop i words))
    → finished so_far ≡ asked (map now_of words)
unfolding asked
asked_at_end words i so_far le read =
    ap (λ o. option_and_then finished o) (sym (read ∙ ap (λ ws. with_all (Some so_far) (map now_of ws)) (drop_all i words le)))

-- nothing is asked where one asks for nothing
pub asked_none : (words : List (Bor (List ℕ))) → with_all (Some no_words) (map now_of words) ≡ None → None ≡ asked (map now_of words)
unfolding asked
asked_none words none = ap (λ o. option_and_then finished o) (sym none)
