-- What one more thing adds to what words ask for.
use Rattle.std.proofs.Common.{◌≡◌, ℕ, List, [], ◌∷◌, ◌++◌, map, refl, sym, subst, ap, ◌∙◌, append-nil}
use Rattle.std.specs.Prelude.{◌||◌, Bool, codes, true, false, Option, Some, None, IfSome, is_some, unwrap_or}
use Rattle.std.specs.List.{All, filter_map, flat_map, last_or}
use Rattle.std.specs.Str.{bytes_eq}
use Rattle.std.proofs.lemmas.Grind.{flat_map-append}
use Rattle.std.proofs.lemmas.Slice.Eq.{bytes_eq-Decides}
use Rattle.std.proofs.lemmas.List.{map-append}
use Rattle.std.proofs.lemmas.List.Elements.{All-append, All-cons, All-nil, filter_map-append}
use denote.Ref.{Bor}
use Rattle.strace_logs.specs.declared.lists.Otherwise.{Otherwise}
use Rattle.strace_logs.specs.declared.lists.Otherwise.TheVariants.{Errno}
use Rattle.strace_logs.specs.declared.lists.Runtime.{Runtime}
use Rattle.strace_logs.specs.declared.wish.Wish.{Wish}
use Rattle.strace_logs.specs.Wish.{IsPlain, Item, is_mark, log_of, otherwise_of, otherwise_word, runtime_of, runtime_word, words_of}
use Rattle.strace_logs.specs.Wish.Item.{Reads, Keeps, For, Else}
use Rattle.strace_logs.specs.inner.Wished.{Asks, AsksTo}

abbrev pub names_of : Wish → List (List ℕ)
names_of wish = map (λ log. log.now) wish.logs.items

pub record Adds (old new : Wish) (item : Item) : Type 0 where
  pub names : names_of new ≡ names_of old ++ filter_map log_of (item ∷ [])
  pub plain : All IsPlain (filter_map log_of (item ∷ []))
  pub last : last_or old.runtime (filter_map runtime_of (item ∷ [])) ≡ new.runtime
  pub rest : (o : Option Otherwise) → unwrap_or o Errno ≡ old.otherwise
      → unwrap_or (last_or o (filter_map otherwise_of (item ∷ []))) Errno ≡ new.otherwise

last_behind : {A : Type 0} (o : Option A) (xs ys : List A) → last_or o (xs ++ ys) ≡ last_or (last_or o xs) ys
last_behind o [] ys = refl
last_behind o (x ∷ xs) ys = last_behind (Some x) xs ys

-- the last one, with one more thing
last_more : {A : Type 0} (of : Item → Option A) (items : List Item) (item : Item)
    → last_or None (filter_map of (items ++ item ∷ [])) ≡ last_or (last_or None (filter_map of items)) (filter_map of (item ∷ []))
last_more of items item =
    ap (λ l. last_or None l) (filter_map-append of items (item ∷ [])) ∙ last_behind None (filter_map of items) (filter_map of (item ∷ []))

pub with_item : (words : List (List ℕ)) (old new : Wish) (item : Item) → Adds old new item → Asks words old
    → Asks (words ++ words_of item) new
with_item words old new item adds asks = record {
  items = asks.items ++ item ∷ [];
  are =
      ap (λ ws. ws ++ words_of item) asks.are ∙ ap (λ ws. flat_map words_of asks.items ++ ws) (sym (append-nil (words_of item)))
      ∙ sym (flat_map-append words_of asks.items (item ∷ []));
  names =
      filter_map-append log_of asks.items (item ∷ []) ∙ ap (λ ns. ns ++ filter_map log_of (item ∷ [])) asks.names ∙ sym adds.names;
  plain = subst (λ ns. All IsPlain ns) (sym adds.names) (All-append IsPlain (names_of old) _ asks.plain adds.plain);
  last =
      last_more runtime_of asks.items item ∙ ap (λ o. last_or o (filter_map runtime_of (item ∷ []))) asks.last ∙ adds.last;
  rest =
      ap (λ o. unwrap_or o Errno) (last_more otherwise_of asks.items item)
      ∙ adds.rest (last_or None (filter_map otherwise_of asks.items)) asks.rest;
}

last_of_three : (a b c : Bool) → (a || b || c) ≡ true → a ≡ false → b ≡ false → c ≡ true
last_of_three false false c one no_a no_b = one
last_of_three true b c one no_a no_b = cc
last_of_three false true c one no_a no_b = cc

module _ (words : List (List ℕ)) (old : Wish) (asks : Asks words old) where
  -- a log
  pub with_log : (new : Wish) (log : List ℕ) → names_of new ≡ names_of old ++ log ∷ [] → is_mark log ≡ false → old.runtime ≡ new.runtime
      → old.otherwise ≡ new.otherwise → Asks (words ++ log ∷ []) new
  with_log new log names plain runtime otherwise =
      with_item words old new (Reads log)
      (record { names = names; plain = All-cons IsPlain log [] plain (All-nil IsPlain); last = runtime; rest = λ o e. e ∙ otherwise }) asks

  -- a call of which values are kept
  pub with_keep : (new : Wish) (word call : List ℕ) → word ≡ codes "keep" → names_of new ≡ names_of old → old.runtime ≡ new.runtime
      → old.otherwise ≡ new.otherwise → Asks (words ++ word ∷ call ∷ []) new
  with_keep new word call is names runtime otherwise =
      subst (λ w. Asks (words ++ w ∷ call ∷ []) new) (sym is)
      (with_item words old new (Keeps call)
      (record { names = names ∙ sym (append-nil (names_of old)); plain = All-nil IsPlain; last = runtime; rest = λ o e. e ∙ otherwise }) asks)

  -- a runtime
  with_runtime : (new : Wish) (word name : List ℕ) (runtime : Runtime) → word ≡ codes "for" → name ≡ runtime_word runtime
      → names_of new ≡ names_of old → new.runtime ≡ Some runtime → old.otherwise ≡ new.otherwise → Asks (words ++ word ∷ name ∷ []) new
  with_runtime new word name runtime is called names put otherwise =
      subst (λ w. Asks (words ++ w ∷ name ∷ []) new) (sym is) (subst (λ n. Asks (words ++ codes "for" ∷ n ∷ []) new) (sym called)
      (with_item words old new (For runtime)
      (record { names = names ∙ sym (append-nil (names_of old)); plain = All-nil IsPlain; last = sym put; rest = λ o e. e ∙ otherwise }) asks))

  pub with_runtime_if : (new : Wish) (word name : List ℕ) (runtime : Option Runtime) → bytes_eq word (codes "for") ≡ true
      → IfSome runtime (λ r. name ≡ runtime_word r) → is_some runtime ≡ true
      → names_of new ≡ names_of old → new.runtime ≡ runtime → old.otherwise ≡ new.otherwise → Asks (words ++ word ∷ name ∷ []) new
  with_runtime_if new word name None is called some names put otherwise = cc
  with_runtime_if new word name (Some r) is called some names put otherwise =
      with_runtime new word name r ((bytes_eq-Decides word (codes "for")).0 is) called names put otherwise

  -- what becomes of the other calls
  with_else : (new : Wish) (word name : List ℕ) (otherwise : Otherwise) → word ≡ codes "else" → name ≡ otherwise_word otherwise
      → names_of new ≡ names_of old → old.runtime ≡ new.runtime → new.otherwise ≡ otherwise → Asks (words ++ word ∷ name ∷ []) new
  with_else new word name otherwise is called names runtime put =
      subst (λ w. Asks (words ++ w ∷ name ∷ []) new) (sym is) (subst (λ n. Asks (words ++ codes "else" ∷ n ∷ []) new) (sym called)
      (with_item words old new (Else otherwise)
      (record { names = names ∙ sym (append-nil (names_of old)); plain = All-nil IsPlain; last = runtime; rest = λ o e. sym put }) asks))

  pub with_otherwise : (new : Wish) (word name : List ℕ) (otherwise : Otherwise) → is_mark word ≡ true
      → bytes_eq word (codes "keep") ≡ false → bytes_eq word (codes "for") ≡ false → name ≡ otherwise_word otherwise
      → names_of new ≡ names_of old → old.runtime ≡ new.runtime → new.otherwise ≡ otherwise → Asks (words ++ word ∷ name ∷ []) new
  with_otherwise new word name otherwise mark no_keep no_for =
      with_else new word name otherwise
      ((bytes_eq-Decides word (codes "else")).0
      (last_of_three (bytes_eq word (codes "keep")) (bytes_eq word (codes "for")) (bytes_eq word (codes "else")) mark no_keep no_for))

-- the name of a log behind no mark
pub with_plain : (words : List (List ℕ)) (old new : Wish) (mark : Option (Bor (List ℕ))) (log : Bor (List ℕ)) → mark ≡ None
    → AsksTo words mark old → new.logs.items ≡ old.logs.items ++ log ∷ [] → is_mark log.now ≡ false → old.runtime ≡ new.runtime
    → old.otherwise ≡ new.otherwise → Asks (words ++ log.now ∷ []) new
with_plain words old new mark log none asks pushed plain runtime otherwise =
    with_log words old (subst (λ m. AsksTo words m old) none asks) new log.now
    (ap (λ ls. map (λ l. l.now) ls) pushed ∙ map-append (λ l. l.now) old.logs.items (log ∷ [])) plain runtime otherwise
