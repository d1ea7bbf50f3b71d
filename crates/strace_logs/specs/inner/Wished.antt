-- What words ask for, as far as they were read.
use Rattle.std.specs.Prelude.{ℕ, ◌≡◌, true, List, [], ◌∷◌, ◌++◌, Option, Some, None, map, unwrap_or}
use Rattle.std.specs.List.{All, filter_map, flat_map, last_or}
use denote.Ref.{Bor}
use Rattle.strace_logs.specs.declared.lists.Otherwise.TheVariants.{Errno}
use Rattle.strace_logs.specs.declared.wish.Wish.{Wish}
use Rattle.strace_logs.specs.Wish.{IsPlain, Item, is_mark, log_of, otherwise_of, runtime_of, words_of}

-- the words ask for what the wish has
pub record Asks (words : List (List ℕ)) (wish : Wish) : Type 0 where
  pub items : List Item
  pub are : words ≡ flat_map words_of items
  pub names : filter_map log_of items ≡ map (λ log. log.now) wish.logs.items
  pub plain : All IsPlain (map (λ log. log.now) wish.logs.items)
  pub last : last_or None (filter_map runtime_of items) ≡ wish.runtime
  pub rest : unwrap_or (last_or None (filter_map otherwise_of items)) Errno ≡ wish.otherwise

-- the same of the words before a mark, which may stand behind them
abbrev pub AsksTo : List (List ℕ) → Option (Bor (List ℕ)) → Wish → Type 0
AsksTo words None wish = Asks words wish
AsksTo words (Some mark) wish =
    (before : List (List ℕ)) × (words ≡ before ++ mark.now ∷ []) × Asks before wish

abbrev pub IsMark : Bor (List ℕ) → Type 0
IsMark mark = is_mark mark.now ≡ true
