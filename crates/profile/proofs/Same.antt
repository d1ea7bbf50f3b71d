-- Conditions and rules are the same where their parts are: the facts beside the parts are propositions.
use Rattle.std.proofs.Common.{◌≡◌, ℕ, suc, ◌<◌, ◌^◌, ◌&&◌, Bool, true, List, map, bit_and, eqb, refl, ◌∙◌, ap, subst, rules}
use Rattle.std.proofs.Math.Nat.{ℕ_set}
use Rattle.std.proofs.Math.Bridge.{le_prop}
use Rattle.std.proofs.Math.Bool.{Bool-set}
use Rattle.std.proofs.lemmas.Bool.{and_parts}
use Rattle.std.proofs.lemmas.Bool.Decides.{Decides-eqb}
use Rattle.std.specs.Cmp.Lexicographic.{pointwise, pointwise_decides}
use denote.Enum.Bare.{sameb, same_true, true_same}
use Rattle.machines.specs.declared.arch.Arch.{Arch}
use Rattle.machines.specs.contracts.arch.Arch as arch_contract
use Rattle.profile.specs.contracts.conditions.Op as op_contract
use Rattle.profile.specs.declared.conditions.Cond.{Cond}
use Rattle.profile.specs.declared.conditions.Op.{Op}
use Rattle.profile.specs.declared.rules.Rule.{Rule}
use Rattle.profile.specs.Operator.{mask_of, are_distinct}

lt_prop : (m n : ℕ) (p q : m < n) → p ≡ q
lt_prop m n p q = le_prop {n = suc m} {m = n} p q

cond_of : (index : ℕ) (op : Op) (value datum : ℕ) → index < 6 → bit_and datum (mask_of op value) ≡ datum → Cond
cond_of i o v d p q = record { index = i; op = o; value = v; datum = d; in_range = p; no_stray = q }

pub same_cond : (a b : Cond) → a.index ≡ b.index → a.op ≡ b.op → a.value ≡ b.value → a.datum ≡ b.datum → a ≡ b
unfolding cond_of
same_cond a b ei eo ev ed =
    let P1 : ℕ → Type 0 = λ i. (p : i < 6) → a ≡ cond_of i a.op a.value a.datum p a.no_stray in
    let P2 : Op → Type 0 = λ o. (q : bit_and a.datum (mask_of o a.value) ≡ a.datum) → a ≡ cond_of b.index o a.value a.datum b.in_range q in
    let P3 : ℕ → Type 0 = λ v. (q : bit_and a.datum (mask_of b.op v) ≡ a.datum) → a ≡ cond_of b.index b.op v a.datum b.in_range q in
    let P4 : ℕ → Type 0 = λ d. (q : bit_and d (mask_of b.op b.value) ≡ d) → a ≡ cond_of b.index b.op b.value d b.in_range q in
    let s1 : P1 b.index =
    subst P1 ei (λ p. ap (λ (x : a.index < 6). cond_of a.index a.op a.value a.datum x a.no_stray) (lt_prop a.index 6 a.in_range p)) in
    let s2 : P2 b.op = subst P2 eo
    (λ q. s1 b.in_range ∙ ap
    (λ (x : bit_and a.datum (mask_of a.op a.value) ≡ a.datum). cond_of b.index a.op a.value a.datum b.in_range x)
    (ℕ_set _ _ a.no_stray q)) in
    let s3 : P3 b.value = subst P3 ev s2 in
    let s4 : P4 b.datum = subst P4 ed s3 in
    s4 b.no_stray

rule_of : (arch : Arch) (nr : ℕ) (items : List Cond) (word : ℕ) → nr < 2 ^ 32 → are_distinct (map (λ (c : Cond). c.index) items) ≡ true
    → Rule
rule_of a n cs w q p = record { arch = a; nr = n; conds = record { items = cs }; word = w; in_range = q; apart = p }

pub same_rule : (a b : Rule) → a.arch ≡ b.arch → a.nr ≡ b.nr → a.conds.items ≡ b.conds.items → a.word ≡ b.word → a ≡ b
unfolding rule_of
same_rule a b ea en ec ew =
    let P : List Cond → Type 0 = λ cs.
    (p : are_distinct (map (λ (c : Cond). c.index) cs) ≡ true) → a ≡ rule_of a.arch a.nr cs a.word a.in_range p in
    let Q : ℕ → Type 0 = λ n. (q : n < 2 ^ 32) → a ≡ rule_of b.arch n b.conds.items a.word q b.apart in
    let s1 : a ≡ rule_of a.arch a.nr b.conds.items a.word a.in_range b.apart =
    subst P ec (λ p. ap (rule_of a.arch a.nr a.conds.items a.word a.in_range) (Bool-set _ _ a.apart p)) b.apart in
    let s2 : a ≡ rule_of b.arch a.nr b.conds.items a.word a.in_range b.apart =
    s1 ∙ ap (λ (x : Arch). rule_of x a.nr b.conds.items a.word a.in_range b.apart) ea in
    let s3 : a ≡ rule_of b.arch b.nr b.conds.items a.word b.in_range b.apart =
    subst Q en (λ q. s2 ∙ ap (λ (x : a.nr < 2 ^ 32). rule_of b.arch a.nr b.conds.items a.word x b.apart)
    (lt_prop a.nr (2 ^ 32) a.in_range q))
    b.in_range in
    s3 ∙ ap (λ (x : ℕ). rule_of b.arch b.nr b.conds.items x b.in_range b.apart) ew

-- what a derived `==` computes
abbrev pub equal_cond : Cond → Cond → Bool
equal_cond a b = eqb a.index b.index && (sameb op_contract.the_type a.op b.op && (eqb a.value b.value && eqb a.datum b.datum))

abbrev pub equal_rule : Rule → Rule → Bool
equal_rule a b = sameb arch_contract.the_type a.arch b.arch &&
    (eqb a.nr b.nr && (pointwise equal_cond a.conds.items b.conds.items && eqb a.word b.word))

equal_cond_same : (a b : Cond) → equal_cond a b ≡ true → a ≡ b
equal_cond_same a b h =
    let p1 = and_parts (eqb a.index b.index) (sameb op_contract.the_type a.op b.op && (eqb a.value b.value && eqb a.datum b.datum)) h in
    let p2 = and_parts (sameb op_contract.the_type a.op b.op) (eqb a.value b.value && eqb a.datum b.datum) p1.1 in
    let p3 = and_parts (eqb a.value b.value) (eqb a.datum b.datum) p2.1 in
    same_cond a b ((Decides-eqb a.index b.index).0 p1.0) (same_true op_contract.the_type (search rules) _ _ p2.0)
    ((Decides-eqb a.value b.value).0 p3.0) ((Decides-eqb a.datum b.datum).0 p3.1)

equal_cond_self : (a : Cond) → equal_cond a a ≡ true
equal_cond_self a =
    let e1 : eqb a.index a.index ≡ true = (Decides-eqb a.index a.index).1 refl in
    let e2 : sameb op_contract.the_type a.op a.op ≡ true = true_same op_contract.the_type a.op a.op refl in
    let e3 : eqb a.value a.value ≡ true = (Decides-eqb a.value a.value).1 refl in
    let e4 : eqb a.datum a.datum ≡ true = (Decides-eqb a.datum a.datum).1 refl in
    rw (e1, e2, e3, e4) refl

equal_cond_decides : (a b : Cond) → (equal_cond a b ≡ true → a ≡ b) × (a ≡ b → equal_cond a b ≡ true)
equal_cond_decides a b = (equal_cond_same a b, λ e. subst (λ (x : Cond). equal_cond a x ≡ true) e (equal_cond_self a))

equal_rule_same : (a b : Rule) → equal_rule a b ≡ true → a ≡ b
equal_rule_same a b h =
    let p1 = and_parts (sameb arch_contract.the_type a.arch b.arch)
    (eqb a.nr b.nr && (pointwise equal_cond a.conds.items b.conds.items && eqb a.word b.word)) h in
    let p2 = and_parts (eqb a.nr b.nr) (pointwise equal_cond a.conds.items b.conds.items && eqb a.word b.word) p1.1 in
    let p3 = and_parts (pointwise equal_cond a.conds.items b.conds.items) (eqb a.word b.word) p2.1 in
    same_rule a b (same_true arch_contract.the_type (search rules) _ _ p1.0) ((Decides-eqb a.nr b.nr).0 p2.0)
    ((pointwise_decides equal_cond_decides a.conds.items b.conds.items).0 p3.0) ((Decides-eqb a.word b.word).0 p3.1)

equal_rule_self : (a : Rule) → equal_rule a a ≡ true
equal_rule_self a =
    let e1 : sameb arch_contract.the_type a.arch a.arch ≡ true = true_same arch_contract.the_type a.arch a.arch refl in
    let e2 : eqb a.nr a.nr ≡ true = (Decides-eqb a.nr a.nr).1 refl in
    let e3 : pointwise equal_cond a.conds.items a.conds.items ≡ true =
    (pointwise_decides equal_cond_decides a.conds.items a.conds.items).1 refl in
    let e4 : eqb a.word a.word ≡ true = (Decides-eqb a.word a.word).1 refl in
    rw (e1, e2, e3, e4) refl

pub equal_rule_decides : (a b : Rule) → (equal_rule a b ≡ true → a ≡ b) × (a ≡ b → equal_rule a b ≡ true)
equal_rule_decides a b = (equal_rule_same a b, λ e. subst (λ (x : Rule). equal_rule a x ≡ true) e (equal_rule_self a))
