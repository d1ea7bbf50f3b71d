-- What was learned of a record, word by word.
use Rattle.std.specs.Prelude.{ℕ, List, [], map, slice_index_or}
use Rattle.std.specs.List.{flat_map, range_with_len}
use Rattle.cert_state.specs.declared.literal.Lit.{Lit}
use Rattle.cert_state.specs.declared.one_word.LearnedWord.{LearnedWord}
use Rattle.cert_state.specs.declared.learned.Learned.{Learned}

-- the word of which literals speak, and these literals, in the order in which they came
unfoldable pub word_of : LearnedWord → ℕ
word_of own = own.word

unfoldable pub lits_of : LearnedWord → List Lit
lits_of own = own.lits.items

-- the literals of a word, in the order in which they came
unfoldable pub own_of : Learned → ℕ → List Lit
own_of learned w = slice_index_or (map lits_of learned.words.items) w []

-- all that is known: the literals of the sixteen words, one word after the other
unfoldable pub known_of : Learned → List Lit
known_of learned = flat_map (own_of learned) (range_with_len 0 16)
