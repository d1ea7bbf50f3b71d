-- The calls that the lines of a text tell, one line after the other.
use Rattle.std.proofs.Common.{◌≡◌, ℕ, zero, suc, ◌+◌, List, [], ◌∷◌, ◌++◌, drop, length, length-append, sym, ap, ◌∙◌, append-nil, append_assoc, arith}
use Rattle.std.specs.Prelude.{nat_lt, Option, Some, None, MatchOption}
use denote.Ref.{Bor}
use Rattle.std.specs.List.{list_all}
use Rattle.std.proofs.Math.Seq.{drop-append_seam}
use Rattle.std.proofs.lemmas.List.{drop-map}
use Rattle.std.proofs.lemmas.List.Folds.{list_all-map}
use Rattle.strace_logs.specs.declared.logged.LogCall.{LogCall}
use Rattle.strace_logs.specs.inner.Views.{all_logged, logged}
use Rattle.std.proofs.lemmas.Bool.Decides.{nat_tests}
use Rattle.machines.specs.declared.arch.Arch.{Arch}
use Rattle.strace_logs.specs.Line.{shown_in, is_raw}
use Rattle.wording.specs.Lines.{lines_of}
use Rattle.strace_logs.specs.Logged.{Logged, calls_from, are_raw, calls_of, told_on}

pub calls_step : (native : Arch) (log : List ℕ) (n : ℕ) (text : List ℕ) (r : Option (Bor (List ℕ) × Bor (List ℕ)))
    → MatchOption r (lines_of text ≡ text ∷ []) (λ p. lines_of text ≡ p.0.now ∷ lines_of p.1.now)
    → MatchOption r (calls_from native log n (lines_of text) ≡ told_on (shown_in native text) log n text)
    (λ p. calls_from native log n (lines_of text) ≡ told_on (shown_in native p.0.now) log n p.0.now ++ calls_from native log (n + 1) (lines_of p.1.now))
calls_step native log n text None h = ap (calls_from native log n) h ∙ append-nil (told_on (shown_in native text) log n text)
calls_step native log n text (Some p) h = ap (calls_from native log n) h

pub more_calls : (a b c d e f : List Logged) → a ≡ b ++ c → d ≡ c ++ e → b ++ d ≡ f → a ++ e ≡ f
more_calls a b c d e f new step old =
    ap (λ l. l ++ e) new ∙ append_assoc b c e ∙ ap (λ l. b ++ l) (sym step) ∙ old

lt_more : (a b n : ℕ) → n ≡ a + b → nat_lt a n ≡ nat_lt 0 b
lt_more a zero n e = grind (arith, nat_tests)
lt_more a (suc b) n e = grind (arith, nat_tests)

-- whether a text added a call
pub has_calls : (native : Arch) (log : List ℕ × List ℕ) (old new : List Logged) (a n : ℕ) → new ≡ old ++ calls_of native log
    → a ≡ length old → n ≡ length new → nat_lt a n ≡ nat_lt 0 (length (calls_of native log))
has_calls native log old new a n e la ln =
    lt_more a (length (calls_of native log)) n
    (ln ∙ ap length e ∙ length-append old (calls_of native log) ∙ ap (λ (k : ℕ). k + length (calls_of native log)) (sym la))

-- and whether those that it added are raw
pub added_are_raw : (native : Arch) (log : List ℕ × List ℕ) (old : List Logged) (new : List LogCall) (a : ℕ)
    → all_logged new ≡ old ++ calls_of native log → a ≡ length old
    → list_all (λ call. is_raw call.line.now) (drop a new) ≡ are_raw (calls_of native log)
added_are_raw native log old new a e la =
    sym (list_all-map (λ (call : Logged). is_raw call.line) logged (drop a new))
    ∙ ap are_raw (sym (drop-map logged a new) ∙ ap (drop a) e ∙ ap (λ k. drop k (old ++ calls_of native log)) la
    ∙ drop-append_seam old (calls_of native log))
