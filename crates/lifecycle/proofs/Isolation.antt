-- One container's replies depend on its own commands alone.
use Rattle.std.proofs.Common.{◌≡◌, ℕ, ◌==◌, ◌&&◌, Bool, true, false, List, [], ◌∷◌, Option, None, Some, refl, if◌then◌else◌, sym, ap, ◌∙◌}
use Rattle.std.specs.Cmp.Lexicographic.{nat_list_eq_equiv}
use Rattle.std.proofs.lemmas.Bool.{eqb-true}
use Rattle.processes.specs.Views.{same_text}
use Rattle.lifecycle.specs.Commands.{Command, id_of}
use Rattle.lifecycle.specs.Worlds.{Container, World, First, container_at, put}
use Rattle.lifecycle.specs.Steps.{acted, run}
use Rattle.lifecycle.specs.Own.{own, own_replies, IsIsolated}

-- k is not a, where it is b and b is not a
pub same_both : (a b k : List ℕ) → same_text a b ≡ false → same_text a k ≡ true → same_text b k ≡ false
same_both a b k h e = nat_list_eq_equiv.symm b k ∙ (sym (nat_list_eq_equiv.congr a k b e) ∙ h)

-- ids of one text find one container
pub alike : (a b : List ℕ) → same_text a b ≡ true → (w : World) → container_at a w ≡ container_at b w
alike a b h [] = refl
alike a b h (e ∷ w) =
    ap (λ t. if t then Some e.1 else container_at a w) (nat_list_eq_equiv.congr a b e.0 h)
    ∙ ap (λ o. if same_text b e.0 then Some e.1 else o) (alike a b h w)

own_none : (id : List ℕ) (e : List ℕ × Container) (w : World) (b : Bool) → same_text id e.0 ≡ b
    → container_at id (put id None w) ≡ None → container_at id (put id None (e ∷ w)) ≡ None
own_none id e w true h q = rw h q
own_none id e w false h q = rw h (rw h q)

own_some : (id : List ℕ) (c : Container) (e : List ℕ × Container) (w : World) (b : Bool) → same_text id e.0 ≡ b
    → container_at id (put id (Some c) w) ≡ Some c → container_at id (put id (Some c) (e ∷ w)) ≡ Some c
own_some id c e w true h q = rw h (rw h refl)
own_some id c e w false h q = rw h (rw h q)

-- what is put for an id is found there
pub found_own : (id : List ℕ) (o : Option Container) (w : World) → container_at id (put id o w) ≡ o
found_own id None [] = refl
found_own id None (e ∷ w) = own_none id e w (same_text id e.0) refl (found_own id None w)
found_own id (Some c) [] = rw (nat_list_eq_equiv.refl id) refl
found_own id (Some c) (e ∷ w) = own_some id c e w (same_text id e.0) refl (found_own id (Some c) w)

other_none : (a b : List ℕ) → same_text a b ≡ false → (e : List ℕ × Container) (w : World) (t : Bool) → same_text a e.0 ≡ t
    → container_at b (put a None w) ≡ container_at b w → container_at b (put a None (e ∷ w)) ≡ container_at b (e ∷ w)
other_none a b n e w true h q = rw h (q ∙ sym (rw (same_both a b e.0 n h) refl))
other_none a b n e w false h q = rw h (ap (λ o. if same_text b e.0 then Some e.1 else o) q)

other_some : (a b : List ℕ) → same_text a b ≡ false → (c : Container) (e : List ℕ × Container) (w : World) (t : Bool)
    → same_text a e.0 ≡ t → container_at b (put a (Some c) w) ≡ container_at b w
    → container_at b (put a (Some c) (e ∷ w)) ≡ container_at b (e ∷ w)
other_some a b n c e w true h q = rw h (rw (same_both a b e.0 n h) refl)
other_some a b n c e w false h q = rw h (ap (λ o. if same_text b e.0 then Some e.1 else o) q)

-- and nothing else changes
pub found_other : (a b : List ℕ) → same_text a b ≡ false → (o : Option Container) (w : World)
    → container_at b (put a o w) ≡ container_at b w
found_other a b n None [] = refl
found_other a b n None (e ∷ w) = other_none a b n e w (same_text a e.0) refl (found_other a b n None w)
found_other a b n (Some c) [] = rw (nat_list_eq_equiv.symm b a, n) refl
found_other a b n (Some c) (e ∷ w) = other_some a b n c e w (same_text a e.0) refl (found_other a b n (Some c) w)

-- From worlds that agree on a container, the replies to the commands that name it are those of a run of these alone.
pub isolated : (F : First) (id : List ℕ) (cmds : List Command) (w v : World) → container_at id w ≡ container_at id v
    → own_replies id cmds (run F cmds w).0 ≡ (run F (own id cmds) v).0
isolated F id [] w v e = refl
isolated F id (cmd ∷ cmds) w v e = by_test (same_text id (id_of cmd)) refl (isolated F id cmds)
  where
    by_test : (t : Bool) → same_text id (id_of cmd) ≡ t → ((w v : World) → container_at id w ≡ container_at id v
        → own_replies id cmds (run F cmds w).0 ≡ (run F (own id cmds) v).0)
        → own_replies id (cmd ∷ cmds) (run F (cmd ∷ cmds) w).0 ≡ (run F (own id (cmd ∷ cmds)) v).0
    by_test true h rest =
        let at : container_at (id_of cmd) w ≡ container_at (id_of cmd) v = sym (alike id (id_of cmd) h w)
        ∙ (e ∙ alike id (id_of cmd) h v) in
        let r = acted F cmd (container_at (id_of cmd) w) in
        let s = acted F cmd (container_at (id_of cmd) v) in
        let same : r ≡ s = ap (acted F cmd) at in
        let next : container_at id (put (id_of cmd) r.1 w) ≡ container_at id (put (id_of cmd) s.1 v) =
        alike id (id_of cmd) h (put (id_of cmd) r.1 w) ∙ (found_own (id_of cmd) r.1 w
        ∙ (ap (λ x. x.1) same ∙ (sym (found_own (id_of cmd) s.1 v) ∙ sym (alike id (id_of cmd) h (put (id_of cmd) s.1 v))))) in
        rw h (ap (λ x. x.0 ∷ own_replies id cmds (run F cmds (put (id_of cmd) r.1 w)).0) same ∙ ap (λ xs. s.0 ∷ xs) (rest _ _ next))
    by_test false h rest =
        let away : same_text (id_of cmd) id ≡ false = nat_list_eq_equiv.symm (id_of cmd) id ∙ h in
        rw h (rest _ v (found_other (id_of cmd) id away _ w ∙ e))

-- ids of one text are equal
and_by : (b c : Bool) → (b && c) ≡ true → (b ≡ true) × (c ≡ true)
and_by true true h = (refl, refl)
and_by true false h = let bad : false ≡ true = h in absurd (cc)
and_by false c h = let bad : false ≡ true = h in absurd (cc)

pub same_is : (a b : List ℕ) → same_text a b ≡ true → a ≡ b
same_is [] [] h = refl
same_is [] (y ∷ b) h = let bad : false ≡ true = h in absurd (cc)
same_is (x ∷ a) [] h = let bad : false ≡ true = h in absurd (cc)
same_is (x ∷ a) (y ∷ b) h =
    let parts = and_by (x == y) (same_text a b) h in
    let first : x ≡ y = eqb-true x y parts.0 in
    let rest : a ≡ b = same_is a b parts.1 in
    cc

-- ids that are not equal are no one text
pub not_same : (a b : List ℕ) → (a ≡ b → ⊥) → same_text b a ≡ false
not_same a b n = by (same_text b a) refl
  where
    by : (t : Bool) → same_text b a ≡ t → same_text b a ≡ false
    by true h = absurd (n (sym (same_is b a h)))
    by false h = h

-- A command sees the container that it names, and changes no other.
pub isolation : IsIsolated
isolation = record {
  reply = λ F o w v e. ap (λ (c : Option Container). (acted F o c).0) e;
  after = λ F o w v e. found_own (id_of o) (acted F o (container_at (id_of o) w)).1 w
      ∙ (ap (λ (c : Option Container). (acted F o c).1) e ∙ sym (found_own (id_of o) (acted F o (container_at (id_of o) v)).1 v));
  others = λ F o id w n. found_other (id_of o) id (not_same id (id_of o) n) (acted F o (container_at (id_of o) w)).1 w;
}
