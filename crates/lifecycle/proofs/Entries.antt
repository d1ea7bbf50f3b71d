-- What a change of an entry, or of what the kernel has of its container, is in the world.
use Rattle.std.proofs.Common.{◌≡◌, ℕ, Bool, true, false, List, [], ◌∷◌, Option, None, Some, refl, if◌then◌else◌, sym, ap, ◌∙◌}
use Rattle.std.specs.Option.{option_map}
use Rattle.std.specs.List.{IsDistinct, AllByRecursion}
use Rattle.std.specs.Map.{lookup, keys_of, set_value, remove_entry}
use std.Path.{fun_ext}
use Rattle.indexmap.specs.IndexMap.{insert_entry}
use Rattle.processes.specs.Tasks.{Processes}
use Rattle.processes.specs.Views.{Containers, SetAt, Same, same_text}
use Rattle.lifecycle.specs.declared.command.Reply.{Reply}
use Rattle.lifecycle.specs.declared.entry.Entry.{Entry}
use Rattle.lifecycle.specs.Commands.{Command, id_of}
use Rattle.lifecycle.specs.Worlds.{Container, World, First, container_at, put}
use Rattle.lifecycle.specs.Steps.{acted, step}
use Rattle.lifecycle.specs.Entries.{Entries, container_of, world_from}
use Rattle.lifecycle.proofs.Isolation.{same_is}

-- ---- steps

back_by : (id : List ℕ) (o : Option Container) (e : List ℕ × Container) (w : World) (b : Bool) → same_text id e.0 ≡ b
    → container_at id (e ∷ w) ≡ o → (container_at id w ≡ o → put id o w ≡ w) → put id o (e ∷ w) ≡ e ∷ w
back_by id None e w true t h rest = let bad : Some e.1 ≡ None = rw t at h in absurd (cc)
back_by id None e w false t h rest = rw t (ap (λ (v : World). e ∷ v) (rest (rw t at h)))
back_by id (Some c) e w true t h rest = let is : Some e.1 ≡ Some c = rw t at h in let same : e.1 ≡ c = cc in
    rw t (ap (λ (x : Container). (e.0, x) ∷ w) (sym same))
back_by id (Some c) e w false t h rest = rw t (ap (λ (v : World). e ∷ v) (rest (rw t at h)))

-- what is there, put back, changes nothing
pub put_back : (id : List ℕ) (o : Option Container) (w : World) → container_at id w ≡ o → put id o w ≡ w
put_back id None [] h = refl
put_back id (Some c) [] h = absurd (cc)
put_back id None (e ∷ w) h = back_by id None e w (same_text id e.0) refl h (put_back id None w)
put_back id (Some c) (e ∷ w) h = back_by id (Some c) e w (same_text id e.0) refl h (put_back id (Some c) w)

-- what a command makes of the container that it names is put in the world
pub changed : (F : First) (o : Command) (w new : World) (before after : Option Container) (reply : Reply) → container_at (id_of o) w ≡ before
    → acted F o before ≡ (reply, after) → new ≡ put (id_of o) after w → (reply, new) ≡ step F o w
changed F o w new before after reply there acts is =
    let all : acted F o (container_at (id_of o) w) ≡ (reply, after) = ap (acted F o) there ∙ acts in
    ap (λ (v : World). (reply, v)) is ∙ ap (λ (r : Reply × Option Container). (r.0, put (id_of o) r.1 w)) (sym all)

-- a command that leaves the container leaves the world
pub unchanged : (F : First) (o : Command) (w : World) (before : Option Container) (reply : Reply) → container_at (id_of o) w ≡ before
    → acted F o before ≡ (reply, before) → (reply, w) ≡ step F o w
unchanged F o w before reply there acts = changed F o w w before before reply there acts (sym (put_back (id_of o) before w there))

-- ---- entries

-- the container with an id is that of its entry
pub found : (k : Containers) (id : List ℕ) (es : Entries) → container_at id (world_from k es)
    ≡ option_map (λ e. container_of e (k id)) (lookup (same_text id) es)
found k id [] = refl
found k id (e ∷ es) = by (same_text id e.0) refl (found k id es)
  where
    by : (b : Bool) → same_text id e.0 ≡ b → container_at id (world_from k es)
        ≡ option_map (λ x. container_of x (k id)) (lookup (same_text id) es)
        → container_at id (world_from k (e ∷ es)) ≡ option_map (λ x. container_of x (k id)) (lookup (same_text id) (e ∷ es))
    by true t rest = rw t (ap (λ q. Some (container_of e.1 (k q))) (sym (same_is id e.0 t)))
    by false t rest = rw t rest

pub there : (k : Containers) (id : List ℕ) (es : Entries) (e : Entry) → lookup (same_text id) es ≡ Some e
    → container_at id (world_from k es) ≡ Some (container_of e (k id))
there k id es e h = found k id es ∙ ap (option_map (λ x. container_of x (k id))) h

pub not_there : (k : Containers) (id : List ℕ) (es : Entries) → lookup (same_text id) es ≡ None → container_at id (world_from k es) ≡ None
not_there k id es h = found k id es ∙ ap (option_map (λ x. container_of x (k id))) h

-- a kernel that has the same gives the same world
pub same_world : (old new : Containers) (es : Entries) → Same old new → world_from new es ≡ world_from old es
same_world old new es same = ap (λ k. world_from k es) (fun_ext same)

-- no entry has the id
abbrev pub Lacks : List ℕ → Entries → Type 0
Lacks id es = lookup (same_text id) es ≡ None

tail_lacks : (id : List ℕ) (e : List ℕ × Entry) (es : Entries) (b : Bool) → same_text id e.0 ≡ b
    → Lacks id (e ∷ es) → (b ≡ false) × Lacks id es
tail_lacks id e es true t h = let bad : Some e.1 ≡ None = rw t at h in absurd (cc)
tail_lacks id e es false t h = (refl, rw t at h)

-- where no entry has the id, what the kernel gets for it is not seen
pub unseen : (old new : Containers) (id : List ℕ) (v : Option Processes) (es : Entries) → SetAt old new id v
    → Lacks id es → world_from new es ≡ world_from old es
unseen old new id v [] set h = refl
unseen old new id v (e ∷ es) set h =
    let t = tail_lacks id e es (same_text id e.0) refl h in
    let same : new e.0 ≡ old e.0 = set e.0 ∙ ap (λ b. if b then v else old e.0) t.0 in
    ap (λ (o : Option Processes). (e.0, container_of e.1 o) ∷ world_from new es) same
    ∙ ap (λ (w : World). (e.0, container_of e.1 (old e.0)) ∷ w) (unseen old new id v es set t.1)

apart : (id : List ℕ) (es : Entries) → AllByRecursion (λ q. same_text id q ≡ false) (keys_of es) → Lacks id es
apart id [] h = refl
apart id (e ∷ es) h = rw h.0 (apart id es h.1)

-- an id that stands once does not stand behind itself
behind : (id : List ℕ) (e : List ℕ × Entry) (es : Entries) → same_text id e.0 ≡ true → IsDistinct same_text (keys_of (e ∷ es)) → Lacks id es
unfolding IsDistinct
behind id e es t d =
    let others : AllByRecursion (λ q. same_text e.0 q ≡ false) (keys_of es) = d.0 in
    ap (λ q. lookup (same_text q) es) (same_is id e.0 t) ∙ apart e.0 es others

later : (e : List ℕ × Entry) (es : Entries) → IsDistinct same_text (keys_of (e ∷ es)) → IsDistinct same_text (keys_of es)
unfolding IsDistinct
later e es d = d.1

-- one entry changes, and what the kernel has of its container
pub written : (old new : Containers) (id : List ℕ) (v : Option Processes) (x y : Entry) (es : Entries)
    → SetAt old new id v → IsDistinct same_text (keys_of es)
    → lookup (same_text id) es ≡ Some y → world_from new (set_value (same_text id) es x)
    ≡ put id (Some (container_of x v)) (world_from old es)
written old new id v x y [] set d h = let bad : None ≡ Some y = h in absurd (cc)
written old new id v x y (e ∷ es) set d h = by (same_text id e.0) refl (written old new id v x y es set (later e es d))
  where
    by : (b : Bool) → same_text id e.0 ≡ b
        → (lookup (same_text id) es ≡ Some y → world_from new (set_value (same_text id) es x)
        ≡ put id (Some (container_of x v)) (world_from old es))
        → world_from new (set_value (same_text id) (e ∷ es) x) ≡ put id (Some (container_of x v)) (world_from old (e ∷ es))
    by true t rest =
        let is : new e.0 ≡ v = set e.0 ∙ ap (λ b. if b then v else old e.0) t in
        rw t (ap (λ (o : Option Processes). (e.0, container_of x o) ∷ world_from new es) is
        ∙ ap (λ (w : World). (e.0, container_of x v) ∷ w) (unseen old new id v es set (behind id e es t d)))
    by false t rest =
        let same : new e.0 ≡ old e.0 = set e.0 ∙ ap (λ b. if b then v else old e.0) t in
        let within : lookup (same_text id) es ≡ Some y = rw t at h in
        rw t (ap (λ (o : Option Processes). (e.0, container_of e.1 o) ∷ world_from new (set_value (same_text id) es x)) same
        ∙ ap (λ (w : World). (e.0, container_of e.1 (old e.0)) ∷ w) (rest within))

module _ {K X : Type 0} (test : K → Bool) (y : X) where
  same_by : (e : K × X) (es : List (K × X)) (b : Bool) → test e.0 ≡ b → (lookup test es ≡ Some y → set_value test es y ≡ es)
      → lookup test (e ∷ es) ≡ Some y → set_value test (e ∷ es) y ≡ e ∷ es
  same_by e es true t rest h =
      let is : Some e.1 ≡ Some y = rw t at h in
      let same : e.1 ≡ y = cc in
      rw t (ap (λ (x : X). (e.0, x) ∷ es) (sym same))
  same_by e es false t rest h = rw t (ap (λ (xs : List (K × X)). e ∷ xs) (rest (rw t at h)))

  -- a value that is there, set again, changes nothing
  pub set_same : (es : List (K × X)) → lookup test es ≡ Some y → set_value test es y ≡ es
  set_same [] h = refl
  set_same (e ∷ es) h = same_by e es (test e.0) refl (set_same es) h

-- only what the kernel has of a container changes
pub told : (old new : Containers) (id : List ℕ) (v : Option Processes) (y : Entry) (es : Entries)
    → SetAt old new id v → IsDistinct same_text (keys_of es)
    → lookup (same_text id) es ≡ Some y → world_from new es ≡ put id (Some (container_of y v)) (world_from old es)
told old new id v y es set d h = ap (λ (xs : Entries). world_from new xs) (sym (set_same (same_text id) y es h))
    ∙ written old new id v y y es set d h

-- an entry goes, and what the kernel has of its container
pub removed : (old new : Containers) (id : List ℕ) (es : Entries) → SetAt old new id None → IsDistinct same_text (keys_of es)
    → world_from new (remove_entry (same_text id) es) ≡ put id None (world_from old es)
removed old new id [] set d = refl
removed old new id (e ∷ es) set d = by (same_text id e.0) refl (removed old new id es set (later e es d))
  where
    by : (b : Bool) → same_text id e.0 ≡ b → world_from new (remove_entry (same_text id) es) ≡ put id None (world_from old es)
        → world_from new (remove_entry (same_text id) (e ∷ es)) ≡ put id None (world_from old (e ∷ es))
    by true t rest =
        let gone = behind id e es t d in
        rw t (unseen old new id None es set gone ∙ sym (put_back id None (world_from old es) (not_there old id es gone)))
    by false t rest =
        let same : new e.0 ≡ old e.0 = set e.0 ∙ ap (λ b. if b then None else old e.0) t in
        rw t (ap (λ (o : Option Processes). (e.0, container_of e.1 o) ∷ world_from new (remove_entry (same_text id) es)) same
        ∙ ap (λ (w : World). (e.0, container_of e.1 (old e.0)) ∷ w) rest)

-- a new entry is put last
pub inserted : (k : Containers) (id : List ℕ) (x : Entry) (es : Entries) → Lacks id es
    → world_from k (insert_entry same_text es id x) ≡ put id (Some (container_of x (k id))) (world_from k es)
inserted k id x [] h = refl
inserted k id x (e ∷ es) h =
    let t = tail_lacks id e es (same_text id e.0) refl h in
    rw t.0 (ap (λ (w : World). (e.0, container_of e.1 (k e.0)) ∷ w) (inserted k id x es t.1))
