-- Numbers by their high bits.
use Rattle.std.proofs.Common.{◌≡◌, ℕ, ◌+◌, ◌*◌, ◌/◌, ◌^◌, ◌<◌, ◌≤◌, inl, inr, List, [], ◌∷◌, ◌++◌, length, get_or, bit_and, ◌==◌, refl, sym, ◌∙◌, ap, subst, arith}
use Rattle.std.specs.Prelude.{Result, Ok, Err, IfOk, IfErr}
use Rattle.std.proofs.lemmas.List.{length_push}
use Rattle.std.specs.List.{All, Contains}
use Rattle.std.specs.Int.{bit_at}
use Rattle.std.proofs.lemmas.List.Elements.{All-cons, All-contains, All-get_or, All-nil, All-push, All-weaker}
use Rattle.profile.specs.declared.conditions.Cond.{Cond}
use Rattle.profile.specs.declared.conditions.Op.{Op}
use Rattle.profile.specs.declared.conditions.Op.TheVariants.{MaskedEq}
use Rattle.profile.specs.Said.{meets, compares}
use Rattle.differ.specs.declared.listed.Unlisted.{Unlisted}
use Rattle.differ.specs.declared.listed.Unlisted.TheVariants.{TooMany, OutOfMemory}
use Rattle.std.proofs.Math.Nat.{div-eq_of_lt}
use Rattle.call_record.proofs.BitLemmas.{below_from_shift}
use Rattle.differ.specs.Cells.{AreAlike, AreApart, AreCells, IsCause, IsMet, most_cells}
use Rattle.differ.specs.inner.Branch.{AllBegin, AreBranch, AreMany, IsDecided, IsFull, IsUnadded, Narrows, Overlooks}
use Rattle.differ.proofs.AlikeLaws.{alike_refl, all_front, all_last, apart_push, met_trans}
use Rattle.differ.proofs.BitLaws.{bit_skipped, div-one, HasTwin, twin_of, next_bit, next_begins}

-- ---- fewer conditions

pub narrows_nil : (high rest : ℕ) → Narrows high rest [] []
narrows_nil high rest = record { enough = λ u v hu hv h. h; fewer = λ u v h. h }

pub narrows_skip : (high rest : ℕ) (conds kept : List Cond) (c : Cond) → Narrows high rest conds kept → IsDecided high rest c
    → Narrows high rest (conds ++ c ∷ []) kept
narrows_skip high rest conds kept c n decided = record {
  enough = λ u v hu hv h. All-push (λ x. meets x u ≡ meets x v) conds c (n.enough u v hu hv h) (decided u v hu hv);
  fewer = λ u v h. n.fewer u v (all_front (λ x. meets x u ≡ meets x v) conds c h);
}

-- one that is kept already
pub narrows_has : (high rest : ℕ) (conds kept : List Cond) (c : Cond) → Narrows high rest conds kept → Contains kept c
    → Narrows high rest (conds ++ c ∷ []) kept
narrows_has high rest conds kept c n has = record {
  enough = λ u v hu hv h. All-push (λ x. meets x u ≡ meets x v) conds c (n.enough u v hu hv h) (All-contains (λ x. meets x u ≡ meets x v) kept c h has);
  fewer = λ u v h. n.fewer u v (all_front (λ x. meets x u ≡ meets x v) conds c h);
}

pub narrows_push : (high rest : ℕ) (conds kept : List Cond) (c : Cond) → Narrows high rest conds kept
    → Narrows high rest (conds ++ c ∷ []) (kept ++ c ∷ [])
narrows_push high rest conds kept c n = record {
  enough = λ u v hu hv h.
      let P : Cond → Type 0 = λ x. meets x u ≡ meets x v in
      All-push P conds c (n.enough u v hu hv (all_front P kept c h)) (all_last P kept c h);
  fewer = λ u v h.
      let P : Cond → Type 0 = λ x. meets x u ≡ meets x v in
      All-push P kept c (n.fewer u v (all_front P conds c h)) (all_last P conds c h);
}

apart_fewer : (high rest : ℕ) (conds kept : List Cond) (list : List ℕ) → Narrows high rest conds kept → AreApart kept list → AreApart conds list
apart_fewer high rest conds kept list n apart = λ i j lt within same. apart i j lt within (n.fewer _ _ same)

begins_at : (high rest : ℕ) (list : List ℕ) (v : ℕ) → AllBegin high rest list → Contains list v → v / 2 ^ rest ≡ high
begins_at high rest list v begin at = ap (λ x. x / 2 ^ rest) (sym at.2) ∙ begin at.0 v at.1

pub branch_narrowed : (high rest : ℕ) (conds kept : List Cond) (list : List ℕ) → Narrows high rest conds kept
    → AreBranch kept high rest list → AreBranch conds high rest list
branch_narrowed high rest conds kept list n b = record {
  begin = b.begin;
  met = λ u h.
      let met = b.met u h in
      (met.0, met.1, n.enough u met.0 h (begins_at high rest list met.0 b.begin met.1) met.2);
  apart = apart_fewer high rest conds kept list n b.apart;
}

pub many_narrowed : (high rest : ℕ) (conds kept : List Cond) → Narrows high rest conds kept → AreMany kept high rest → AreMany conds high rest
many_narrowed high rest conds kept n m = record {
  list = m.list;
  begin = m.begin;
  apart = apart_fewer high rest conds kept m.list n m.apart;
  more = m.more;
}

-- ---- one bit up

pub begin_up : (high next place rest : ℕ) (list : List ℕ) → rest ≡ place + 1 → next / 2 ≡ high → AllBegin next place list → AllBegin high rest list
begin_up high next place rest list r n begin =
    All-weaker _ _ (λ v h. next_begins v high place rest r (ap (λ x. x / 2) h ∙ n)) list begin

pub many_up : (conds : List Cond) (high next place rest : ℕ) → rest ≡ place + 1 → next / 2 ≡ high → AreMany conds next place → AreMany conds high rest
many_up conds high next place rest r n m = record {
  list = m.list;
  begin = begin_up high next place rest m.list r n m.begin;
  apart = m.apart;
  more = m.more;
}

overlooked : (op : Op) (value datum u place : ℕ) (high : ℕ) (twin : HasTwin u high place) → op ≡ MaskedEq → bit_at value place ≡ 0
    → compares op value datum u ≡ compares op value datum twin.twin
overlooked op value datum u place high twin is clear =
    let e : bit_and u value ≡ bit_and twin.twin value =
    ap (λ x. bit_and x value) twin.is ∙ bit_skipped twin.twin value place clear twin.clear in
    rw is (ap (λ x. x == datum) e)

twin_alike : (conds : List Cond) (u high place : ℕ) (twin : HasTwin u high place) → All (Overlooks place) conds → AreAlike conds u twin.twin
twin_alike conds u high place twin over =
    All-weaker (Overlooks place) (λ c. meets c u ≡ meets c twin.twin) (λ c o. overlooked c.op c.value c.datum u place high twin o.0 o.1) conds over

pub branch_skipped : (conds : List Cond) (high place rest : ℕ) (list : List ℕ) → rest ≡ place + 1 → All (Overlooks place) conds
    → AreBranch conds (2 * high) place list → AreBranch conds high rest list
branch_skipped conds high place rest list r over b = record {
  begin = begin_up high (2 * high) place rest list r (omega arith) b.begin;
  met = λ u h. elim (next_bit u high place rest r h) [
    | inl zero ↦ b.met u zero
    | inr one ↦
        let twin = twin_of u high place one in
        met_trans conds list u twin.twin (twin_alike conds u high place twin over) (b.met twin.twin twin.begins)
  ];
  apart = b.apart;
}

-- the numbers of both halves
pub branch_joined : (conds : List Cond) (high place rest : ℕ) (low upper list : List ℕ) → rest ≡ place + 1
    → AreBranch conds (2 * high) place low → AreBranch conds (2 * high + 1) place upper
    → (AllBegin high rest low → AllBegin high rest upper → AllBegin high rest list)
    → ((u : ℕ) → IsMet conds low u → IsMet conds list u) → ((u : ℕ) → IsMet conds upper u → IsMet conds list u)
    → (AreApart conds low → AreApart conds list) → AreBranch conds high rest list
branch_joined conds high place rest low upper list r a b begin stay come apart = record {
  begin = begin
      (begin_up high (2 * high) place rest low r (omega arith) a.begin)
      (begin_up high (2 * high + 1) place rest upper r (omega arith) b.begin);
  met = λ u h. elim (next_bit u high place rest r h) [
    | inl zero ↦ stay u (a.met u zero)
    | inr one ↦ come u (b.met u one)
  ];
  apart = apart a.apart;
}

pub branch_single : (conds : List Cond) (high : ℕ) → AreBranch conds high 0 (high ∷ [])
branch_single conds high = record {
  begin = All-cons (λ v. v / 2 ^ 0 ≡ high) high [] (div-one high) (All-nil (λ v. v / 2 ^ 0 ≡ high));
  met = λ u h.
      let same : u ≡ high = sym (div-one u) ∙ h in
      (high, (0, omega arith, refl), subst (λ v. AreAlike conds u v) same (alike_refl conds u));
  apart = λ i j lt within same. absurd (omega arith);
}

-- a number more than are listed
pub many_added : (conds : List Cond) (high rest : ℕ) (list xs : List ℕ) (i : ℕ) → i < length xs → most_cells ≤ length list
    → AllBegin high rest list → AllBegin high rest xs → AreApart conds list → (IsMet conds list (get_or xs i 0) → ⊥) → AreMany conds high rest
many_added conds high rest list xs i lt many begin begin_more apart unmet = record {
  list = list ++ get_or xs i 0 ∷ [];
  begin = All-push (λ v. v / 2 ^ rest ≡ high) list (get_or xs i 0) begin (All-get_or (λ v. v / 2 ^ rest ≡ high) xs i 0 lt begin_more);
  apart = apart_push conds list (get_or xs i 0) apart unmet;
  more = let len : length (list ++ get_or xs i 0 ∷ []) ≡ length list + 1 = length_push list (get_or xs i 0) in omega arith;
}

-- ---- no list

pub full_up : (conds : List Cond) (high next place rest : ℕ) (e : Unlisted) → rest ≡ place + 1 → next / 2 ≡ high
    → IsFull conds next place e → IsFull conds high rest e
full_up conds high next place rest TooMany r n f = many_up conds high next place rest r n f
full_up conds high next place rest OutOfMemory r n f = f

pub full_narrowed : (conds kept : List Cond) (high rest : ℕ) (e : Unlisted) → Narrows high rest conds kept
    → IsFull kept high rest e → IsFull conds high rest e
full_narrowed conds kept high rest TooMany n f = many_narrowed high rest conds kept n f
full_narrowed conds kept high rest OutOfMemory n f = f

pub err_weaker : {A E : Type 0} (r : Result A E) (P Q : E → Type 0) → ((e : E) → P e → Q e) → IfErr r P → IfErr r Q
err_weaker (Ok a) P Q f h = tt
err_weaker (Err e) P Q f h = f e h

pub ok_weaker : {A E : Type 0} (r : Result A E) (P Q : A → Type 0) → ((a : A) → P a → Q a) → IfOk r P → IfOk r Q
ok_weaker (Ok a) P Q f h = f a h
ok_weaker (Err e) P Q f h = tt

pub full_added : (conds : List Cond) (high rest : ℕ) (list xs : List ℕ) (i : ℕ) (e : Unlisted) → i < length xs → IsUnadded list e
    → AllBegin high rest list → AllBegin high rest xs → AreApart conds list → (IsMet conds list (get_or xs i 0) → ⊥) → IsFull conds high rest e
full_added conds high rest list xs i TooMany lt many begin more apart unmet = many_added conds high rest list xs i lt many begin more apart unmet
full_added conds high rest list xs i OutOfMemory lt many begin more apart unmet = tt

-- ---- from the highest bit on

all_within : (bits : ℕ) (list : List ℕ) → AllBegin 0 bits list → All (λ u. u < 2 ^ bits) list
all_within bits list begin = All-weaker (λ v. v / 2 ^ bits ≡ 0) (λ v. v < 2 ^ bits) (λ v h. below_from_shift v bits h) list begin

pub branch_cells : (conds : List Cond) (bits : ℕ) (list : List ℕ) → AreBranch conds 0 bits list → AreCells conds bits list
branch_cells conds bits list b = record {
  within = all_within bits list b.begin;
  each_is_met = λ u lt. b.met u (div-eq_of_lt lt);
  each_is_apart = b.apart;
}

pub full_cause : (conds : List Cond) (bits : ℕ) (e : Unlisted) → IsFull conds 0 bits e → IsCause conds bits e
full_cause conds bits TooMany m = record {
  list = m.list;
  within = all_within bits m.list m.begin;
  each_is_apart = m.apart;
  more = m.more;
}
full_cause conds bits OutOfMemory m = tt
