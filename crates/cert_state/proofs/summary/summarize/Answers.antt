use Rattle.std.proofs.Common.{◌≡◌, ◌≢◌, ◌∙◌, ap, sym, refl, ◌↔◌, ℕ, List, []}
use Rattle.std.specs.Prelude.{bit_and, bit_xor}
use Rattle.cert_state.specs.declared.literal.Lit.{Lit}
use Rattle.cert_state.specs.declared.summary.Summary.{Summary}
use Rattle.cert_state.specs.inner.Summary.{summary_of, unknown}
use Rattle.cert_state.specs.Points.{mask_of, datum_of}
use Rattle.cert_state.specs.Entailment.{IsTornAt}
use Rattle.cert_state.proofs.SummaryLaws.{gathered, not_torn, torn_from, ones_of, zeros_of}
use Rattle.cert_state.proofs.summary.summarize.Goals as goal

-- each field of what was gathered
module _ (known rest : List Lit) (w : ℕ) (s : Summary) (done : rest ≡ []) (so : summary_of rest w s ≡ summary_of known w unknown) where
  is : s ≡ summary_of known w unknown
  is = sym (ap (λ ls. summary_of ls w s) done) ∙ so

  mask : s.mask ≡ mask_of known w
  mask = ap (λ (t : Summary). t.mask) is ∙ gathered w (λ t. t.mask) (λ m d. m) (λ t lo hi. refl) (λ t m d. refl) known refl

  datum : s.datum ≡ datum_of known w
  datum = ap (λ (t : Summary). t.datum) is ∙ gathered w (λ t. t.datum) (λ m d. d) (λ t lo hi. refl) (λ t m d. refl) known refl

  ones : s.ones ≡ ones_of known w
  ones = ap (λ (t : Summary). t.ones) is ∙ gathered w (λ t. t.ones) bit_and (λ t lo hi. refl) (λ t m d. refl) known refl

  zeros : s.zeros ≡ zeros_of known w
  zeros = ap (λ (t : Summary). t.zeros) is
      ∙ gathered w (λ t. t.zeros) (λ m d. bit_and m (bit_xor m d)) (λ t lo hi. refl) (λ t m d. refl) known refl

  both : bit_and s.ones s.zeros ≡ bit_and (ones_of known w) (zeros_of known w)
  both = ap (λ n. bit_and n s.zeros) ones ∙ ap (λ n. bit_and (ones_of known w) n) zeros

  torn : (bit_and s.ones s.zeros ≢ 0) ↔ IsTornAt known w
  torn = (λ ne. torn_from known w (λ e. ne (both ∙ e)), λ h e. not_torn known w h (sym both ∙ e))

pub returns-clause-mask : goal.returns-clause-mask
returns-clause-mask g c =
    mask (g.S.State.known c.args.state.now) _ c.args.word c.loop-literal.summary c.in_default.ensures.more c.loop-literal.invariant

pub returns-clause-datum : goal.returns-clause-datum
returns-clause-datum g c =
    datum (g.S.State.known c.args.state.now) _ c.args.word c.loop-literal.summary c.in_default.ensures.more c.loop-literal.invariant

pub returns-clause-torn : goal.returns-clause-torn
returns-clause-torn g c =
    torn (g.S.State.known c.args.state.now) _ c.args.word c.loop-literal.summary c.in_default.ensures.more c.loop-literal.invariant
