use Rattle.std.proofs.Common.{◌≡◌, ◌<◌, ℕ, [], length}
use Rattle.std.specs.Prelude.{slice_index_or}
use Rattle.cert_state.specs.declared.one_word.LearnedWord.{LearnedWord}
use Rattle.cert_state.specs.Learned.{lits_of}
use Rattle.cert_state.proofs.learned.Learned.new.Given as goal

abbrev pub invariant-loop-word : goal.invariant-loop-word
invariant-loop-word l = record {
  so_far : length l.words.items ≡ l.word;
  placed : (w : ℕ) (d : LearnedWord) → w < l.word → (slice_index_or l.words.items w d).word ≡ w;
  none : (w : ℕ) (d : LearnedWord) → w < l.word → lits_of (slice_index_or l.words.items w d) ≡ [];
}
