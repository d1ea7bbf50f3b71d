use Rattle.std.proofs.Common.{◌≡◌, ℕ, List, subst, ap, ◌∙◌, arith, length}
use Rattle.std.specs.Prelude.{map}
use Rattle.cert_form.specs.declared.node.ChainNode.{ChainNode}
use Rattle.cert_form.specs.declared.node.Claim.{Claim}
use Rattle.cert_form.specs.Nodes.{said}
use Rattle.cert_form.specs.Spelling.{Spells}
use Rattle.cert_form.specs.Writing.{AreClaimsMeant, ClaimsRefused, all_known}
use Rattle.cert_form.proofs.KnownLaws.{length-known}
use Rattle.cert_state.specs.declared.literal.Lit.{Lit}
use Rattle.certify.proofs.SizeLaws.{only_memory, sixteen_each, some_places}
use Rattle.certify.proofs.WholeLaws.{meant, valid}
use Rattle.certify.proofs.paths.Paths.written.Goals as goal

pub returns-in-Ok-clause-valid : goal.returns-in-Ok-clause-valid
returns-in-Ok-clause-valid c = λ policy p inside kept.
    let s = c.args.self.now in
    let nodes = c.in_ok-nodes.nodes.items in
    let each = c.in_ok-nodes.ensures.each in
    let small = c.in_ok-nodes.ensures.small in
    let R : List (ℕ × Claim) → List ChainNode → Type 0 = λ es ns. AreClaimsMeant es ns → Spells c.in-Ok.bytes.items (map (said 4 es) ns) in
    let one : R c.deref-2.result.now c.deref-3.result.now = c.in-Ok.ensures.read in
    let two : R c.in_ok-claims.claims.items c.deref-3.result.now = subst (λ es. R es c.deref-3.result.now) c.deref-2.ensures.value one in
    let made : R (all_known c.deref.result.now) c.deref-3.result.now = subst (λ es. R es c.deref-3.result.now) c.in_ok-claims.ensures two in
    let three : R (all_known s.entries.items) c.deref-3.result.now =
    subst (λ es. R (all_known es) c.deref-3.result.now) c.deref.ensures.value made in
    let four : R (all_known s.entries.items) nodes = subst (λ ns. R (all_known s.entries.items) ns) c.deref-3.ensures.value three in (
      map (said 4 (all_known s.entries.items)) nodes,
      four (meant s nodes policy p c.requires.paths c.requires.all each small kept),
      valid s nodes policy p c.requires.paths c.requires.all each small kept,
    )

pub returns-clause-memory : goal.returns-clause-memory
returns-clause-memory c =
    let s = c.args.self.now in
    let nodes = c.in_ok-nodes.nodes.items in
    let each = c.in_ok-nodes.ensures.each in
    let claims = c.in_ok-claims.claims.items in
    let R : List (ℕ × Claim) → List ChainNode → Type 0 = λ es ns. ClaimsRefused c.in-Err.error es ns in
    let one : R c.deref-2.result.now c.deref-3.result.now = c.in-Err.ensures.refused in
    let two : R claims c.deref-3.result.now = subst (λ es. R es c.deref-3.result.now) c.deref-2.ensures.value one in
    let three : R claims nodes = subst (λ ns. R claims ns) c.deref-3.ensures.value two in
    let as_known : length claims ≡ length (all_known s.entries.items) =
    ap length c.in_ok-claims.ensures ∙ ap (λ (es : List (ℕ × Lit)). length (all_known es)) c.deref.ensures.value in
    let entries : length claims ≡ length s.entries.items = as_known ∙ length-known s.entries.items in
    let all = c.requires.all in
    let many = each.many in
    let few = c.requires.paths.few in
    let few_entries = c.requires.paths.few_entries in
    c.refused.ensures.memory (only_memory claims nodes (sixteen_each s nodes c.requires.paths all each)
    (omega (arith, many, all, some_places s c.requires.paths)) (omega (arith, many, all, few)) (omega (arith, entries, few, few_entries))
    c.in-Err.error three)
