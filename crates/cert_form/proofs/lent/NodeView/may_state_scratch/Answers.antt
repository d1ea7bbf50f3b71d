use Rattle.std.proofs.Common.{rules, ◌≡◌, ◌≤◌, ◌+◌, ℕ, List, not, true, false, eqb, length, ap, sym, ◌∙◌, inl, inr, arith}
use Rattle.std.proofs.lemmas.Bool.{cases_eq, ne_eqb}
use Rattle.cert_form.specs.Nodes.{PlainNode}
use Rattle.cert_form.specs.Reading.{chain_place, scratch_at, scratch_from, short_at, version_of}
use Rattle.cert_form.specs.Spelling.{nothing_stated}
use Rattle.cert_form.specs.Views.{says}
use Rattle.cert_form.specs.inner.Places.{IsNodeThere}
use Rattle.cert_form.proofs.ReadLaws.{chained_is, listed_is}
use Rattle.cert_form.proofs.ScratchLaws.{plain_at}
use Rattle.cert_form.proofs.lent.NodeView.may_state_scratch.Goals as goal

-- the chain of a node of form 3 or 4 stands after the bits
after_bits : (bytes : List ℕ) (at : ℕ) → (version_of bytes ≡ 2 → ⊥) → at + 18 ≤ chain_place bytes at
unfolding chain_place
after_bits bytes at other = rw (ne_eqb (version_of bytes) 2 other) (omega arith)

-- where no bit is set nothing is stated
no_bits : (bytes : List ℕ) (at : ℕ) → (version_of bytes ≡ 2 → ⊥) → short_at bytes (at + 16) ≡ 0 → scratch_at bytes at ≡ nothing_stated
unfolding scratch_at scratch_from
no_bits bytes at other none = rw (ne_eqb (version_of bytes) 2 other) (ap (λ b. scratch_from bytes (at + 18) b 16) none)

is_zero : (a : ℕ) → not (eqb a 0) ≡ false → a ≡ 0
is_zero a e = elim (cases_eq a 0) [
  | inl zero ↦ zero
  | inr other ↦ absurd (let untrue : true ≡ false = ap not (sym (ne_eqb a 0 other)) ∙ e in cc)
]

pub returns-then-version-eq1 : goal.returns-then-version-eq1
unfolding says
returns-then-version-eq1 c =
    let bytes = c.args.self.now.bytes.now in
    let one : version_of bytes ≡ 1 = omega (arith, c.read_long-version.ensures, c.if-version-eq1.true) in
    λ _. ap (λ (n : PlainNode). n.regs.scratch) (listed_is bytes c.args.self.now.at one)

pub returns-then-version-eq2 : goal.returns-then-version-eq2
unfolding says
returns-then-version-eq2 c =
    let bytes = c.args.self.now.bytes.now in
    let two : version_of bytes ≡ 2 = omega (arith, c.read_long-version.ensures, c.if-version-eq2.true) in
    let other : version_of bytes ≡ 1 → ⊥ = λ one. omega (arith, one, two) in
    λ _. ap (λ (n : PlainNode). n.regs.scratch) (chained_is bytes c.args.self.now.at other) ∙ plain_at bytes c.args.self.now.at two

pub overflow_add-self : goal.overflow_add-self
overflow_add-self c =
    let bytes = c.args.self.now.bytes.now in
    let other : version_of bytes ≡ 1 → ⊥ = λ one. omega (arith, c.read_long-version.ensures, c.if-version-eq1.false, one) in
    let there : IsNodeThere bytes c.args.self.now.at = search rules in
    let not_two : version_of bytes ≡ 2 → ⊥ = λ two. omega (arith, c.read_long-version.ensures, c.if-version-eq2.false, two) in
    let room : c.args.self.now.at + 22 ≤ length bytes = omega (arith, after_bits bytes c.args.self.now.at not_two, there.chained other) in
    search rules

pub read_short-requires : goal.read_short-requires
read_short-requires c =
    let bytes = c.args.self.now.bytes.now in
    let other : version_of bytes ≡ 1 → ⊥ = λ one. omega (arith, c.read_long-version.ensures, c.if-version-eq1.false, one) in
    let there : IsNodeThere bytes c.args.self.now.at = search rules in
    let not_two : version_of bytes ≡ 2 → ⊥ = λ two. omega (arith, c.read_long-version.ensures, c.if-version-eq2.false, two) in
    omega (arith, after_bits bytes c.args.self.now.at not_two, there.chained other)

pub returns : goal.returns
unfolding says
returns c =
    let bytes = c.args.self.now.bytes.now in
    let other : version_of bytes ≡ 1 → ⊥ = λ one. omega (arith, c.read_long-version.ensures, c.if-version-eq1.false, one) in
    let not_two : version_of bytes ≡ 2 → ⊥ = λ two. omega (arith, c.read_long-version.ensures, c.if-version-eq2.false, two) in
    λ t.
    let none : short_at bytes (c.args.self.now.at + 16) ≡ 0 = sym c.read_short.ensures ∙ is_zero c.read_short.result t in
    ap (λ (n : PlainNode). n.regs.scratch) (chained_is bytes c.args.self.now.at other) ∙ no_bits bytes c.args.self.now.at not_two none
