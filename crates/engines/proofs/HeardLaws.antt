-- What words ask for is read of them.
use Rattle.std.proofs.Common.{◌≡◌, ◌≢◌, ℕ, List, [], ◌∷◌, ◌++◌, ap, arith, map, refl, subst, sym, ◌∙◌, length}
use Rattle.std.specs.Prelude.{bit_or, Bool, true, false, codes, filter, fold, Option, Some, None, is_some, option_and_then, option_map, unwrap_or}
use Rattle.std.specs.List.{filter_map}
use Rattle.engines.specs.declared.settling.choice.Choice.{Choice}
use Rattle.engines.specs.declared.settling.choice.Choice.TheVariants.{First, Looser, Stricter, LikeLibseccomp}
use Rattle.engines.specs.declared.capabilities.Engine.{Engine}
use Rattle.engines.specs.declared.capabilities.Engine.TheVariants.{Docker, Podman, Containerd}
use Rattle.engines.specs.declared.kernels.Kernel.{Kernel}
use Rattle.engines.specs.declared.words.Awaits.{Awaits}
use Rattle.engines.specs.declared.words.Awaits.TheVariants as await
use Rattle.engines.specs.declared.words.Container.{Container}
use Rattle.engines.specs.declared.words.Wanted.{Wanted}
use Rattle.engines.specs.declared.words.Words.{Words}
use Rattle.engines.specs.Words.{AreItems, AskFor, IsContainer, IsItem, Item, capability_called, choice_name, engine_name}
use Rattle.engines.specs.Words.{bits_of, choice_of, engine_of, is_logging, is_widening, kernel_of}
use Rattle.engines.specs.Words.Item.{Widens, Logs, Chooses, For, With, On}
use Rattle.engines.specs.inner.Reading.{asked, capability_or, choice_called, container_of, engine_called, finished, may_end, no_words, unless, wanted_by}
use Rattle.engines.specs.inner.Reading.{with_all, with_next, with_next_by, with_word}
use Rattle.engines.proofs.ItemLaws.{Adds, once_less, one_less, same_option, same_truth}

-- the words are read to an end that is like this one
record Ends (s : Words) (ws : List (List ℕ)) (f : Words) : Type 0 where
  pub last : Words
  pub read : with_all (Some s) ws ≡ Some last
  pub adds : Adds last [] f
  pub ends : may_end last.awaits ≡ true

stepped : (s n f : Words) (w : List ℕ) (ws : List (List ℕ)) → with_next s w ≡ Some n → Ends n ws f → Ends s (w ∷ ws) f
stepped s n f w ws e r = record { last = r.last; read = ap (λ o. with_all o ws) e ∙ r.read; adds = r.adds; ends = r.ends }

-- a word that is no capability, where things may begin
begins_by : (a : Awaits) (s : Words) (w : List ℕ) → may_end a ≡ true → capability_called w ≡ None → with_next_by a s w ≡ with_word s w
begins_by await.Word s w may none = refl
begins_by await.More s w may none = ap (capability_or with_word s w) none
begins_by await.Engine s w may none = cc
begins_by await.Kernel s w may none = cc
begins_by await.Capability s w may none = cc

free_unless : (b : Bool) (s : Words) → b ≡ false → unless b s ≡ Some s
free_unless true s e = cc
free_unless false s e = refl

no_keyword : (capability_called (codes "widen") ≡ None) × (capability_called (codes "log") ≡ None) × (capability_called (codes "for") ≡ None)
    × (capability_called (codes "cap") ≡ None) × (capability_called (codes "kernel") ≡ None)
unfolding capability_called
no_keyword = (refl, refl, refl, refl, refl)

no_choice : (c : Choice) → capability_called (choice_name c) ≡ None
unfolding capability_called
no_choice First = refl
no_choice Looser = refl
no_choice Stricter = refl
no_choice LikeLibseccomp = refl

choice_word : (s : Words) (c : Choice)
    → with_word s (choice_name c) ≡ unless (is_some s.choice) (record s { awaits = await.Word; choice = Some c })
unfolding with_word choice_called
choice_word s First = refl
choice_word s Looser = refl
choice_word s Stricter = refl
choice_word s LikeLibseccomp = refl

module _ (s : Words) (may : may_end s.awaits ≡ true) where
  begins : (w : List ℕ) → capability_called w ≡ None → with_next s w ≡ with_word s w
  begins w none = begins_by s.awaits s w may none

  reads_widen : s.may_widen ≡ false → with_next s (codes "widen") ≡ Some (record s { awaits = await.Word; may_widen = true })
  unfolding with_word
  reads_widen free = begins (codes "widen") no_keyword.0 ∙ free_unless s.may_widen (record s { awaits = await.Word; may_widen = true }) free

  reads_log : s.logs ≡ false → with_next s (codes "log") ≡ Some (record s { awaits = await.Word; logs = true })
  unfolding with_word
  reads_log free = begins (codes "log") no_keyword.1 ∙ free_unless s.logs (record s { awaits = await.Word; logs = true }) free

  reads_for : is_some s.engine ≡ false → with_next s (codes "for") ≡ Some (record s { awaits = await.Engine })
  unfolding with_word
  reads_for free = begins (codes "for") no_keyword.2 ∙ free_unless (is_some s.engine) (record s { awaits = await.Engine }) free

  reads_cap : is_some s.more ≡ false → with_next s (codes "cap") ≡ Some (record s { awaits = await.Capability })
  unfolding with_word
  reads_cap free = begins (codes "cap") no_keyword.3 ∙ free_unless (is_some s.more) (record s { awaits = await.Capability }) free

  reads_kernel : is_some s.kernel ≡ false → with_next s (codes "kernel") ≡ Some (record s { awaits = await.Kernel })
  unfolding with_word
  reads_kernel free = begins (codes "kernel") no_keyword.4 ∙ free_unless (is_some s.kernel) (record s { awaits = await.Kernel }) free

  reads_choice : (c : Choice) → is_some s.choice ≡ false
      → with_next s (choice_name c) ≡ Some (record s { awaits = await.Word; choice = Some c })
  reads_choice c free =
      begins (choice_name c) (no_choice c) ∙ choice_word s c
      ∙ free_unless (is_some s.choice) (record s { awaits = await.Word; choice = Some c }) free

engine_called_of : (e : Engine) → engine_called (engine_name e) ≡ Some e
unfolding engine_called
engine_called_of Docker = refl
engine_called_of Podman = refl
engine_called_of Containerd = refl

-- the names of further capabilities
names_more : (names : List (List ℕ)) (bits : List ℕ) (ws : List (List ℕ)) (t f : Words) (m : ℕ)
    → map capability_called names ≡ map Some bits
    → Ends (record t { awaits = await.More; more = Some (fold bit_or m bits) }) ws f
    → Ends (record t { awaits = await.More; more = Some m }) (names ++ ws) f
names_more [] [] ws t f m called r = r
names_more [] (b ∷ bits) ws t f m called r = cc
names_more (n ∷ names) [] ws t f m called r = cc
names_more (n ∷ names) (b ∷ bits) ws t f m called r =
    let one : capability_called n ≡ Some b = cc in
    let others : map capability_called names ≡ map Some bits = cc in
    let s = record t { awaits = await.More; more = Some m } in
    stepped s (record t { awaits = await.More; more = Some (bit_or m b) }) f n (names ++ ws)
    (ap (capability_or with_word s n) one) (names_more names bits ws t f (bit_or m b) others r)

-- the names of capabilities behind `cap`
names_first : (names : List (List ℕ)) (bits : List ℕ) (ws : List (List ℕ)) (t f : Words) → t.more ≡ None → names ≢ []
    → map capability_called names ≡ map Some bits
    → Ends (record t { awaits = await.More; more = Some (fold bit_or 0 bits) }) ws f
    → Ends (record t { awaits = await.Capability }) (names ++ ws) f
names_first [] bits ws t f free some called r = absurd (some refl)
names_first (n ∷ names) [] ws t f free some called r = cc
names_first (n ∷ names) (b ∷ bits) ws t f free some called r =
    let one : capability_called n ≡ Some b = cc in
    let others : map capability_called names ≡ map Some bits = cc in
    let s = record t { awaits = await.Capability } in
    stepped s (record t { awaits = await.More; more = Some (bit_or 0 b) }) f n (names ++ ws)
    (ap (capability_or (λ s' w'. None) s n) one
    ∙ ap (λ o. Some (record t { awaits = await.More; more = Some (bit_or (unwrap_or o 0) b) })) free)
    (names_more names bits ws t f (bit_or 0 b) others r)

none_of : {X : Type 0} (o : Option X) → is_some o ≡ false → o ≡ None
none_of None e = refl
none_of (Some x) e = cc

-- the words of a thing, and those behind it
module _ (items : List Item) (ws : List (List ℕ)) (s f : Words) (may : may_end s.awaits ≡ true)
    (ih : (n : Words) → Adds n items f → may_end n.awaits ≡ true → Ends n ws f) where
  item_read : (item : Item) (first : List (List ℕ)) → IsItem item first → Adds s (item ∷ items) f → Ends s (first ++ ws) f
  item_read Widens first is r =
      let p = once_less s.may_widen f.may_widen (length (filter is_widening items)) (omega (arith, r.widens)) in
      subst (λ x. Ends s (x ++ ws) f) (sym is) (stepped s _ f (codes "widen") ws (reads_widen s may p.0) (ih _ (record {
        widens = p.1;
        logs = r.logs;
        choices = r.choices;
        engines = r.engines;
        bits = r.bits;
        kernels = r.kernels;
      }) refl))
  item_read Logs first is r =
      let p = once_less s.logs f.logs (length (filter is_logging items)) (omega (arith, r.logs)) in
      subst (λ x. Ends s (x ++ ws) f) (sym is) (stepped s _ f (codes "log") ws (reads_log s may p.0) (ih _ (record {
        widens = r.widens;
        logs = p.1;
        choices = r.choices;
        engines = r.engines;
        bits = r.bits;
        kernels = r.kernels;
      }) refl))
  item_read (Chooses c) first is r =
      let p = one_less s.choice f.choice c (filter_map choice_of items) r.choices in
      subst (λ x. Ends s (x ++ ws) f) (sym is) (stepped s _ f (choice_name c) ws (reads_choice s may c p.0) (ih _ (record {
        widens = r.widens;
        logs = r.logs;
        choices = p.1;
        engines = r.engines;
        bits = r.bits;
        kernels = r.kernels;
      }) refl))
  item_read (For e) first is r =
      let p = one_less s.engine f.engine e (filter_map engine_of items) r.engines in
      let n = record s { awaits = await.Engine } in
      subst (λ x. Ends s (x ++ ws) f) (sym is) (stepped s n f (codes "for") (engine_name e ∷ ws) (reads_for s may p.0)
      (stepped n (record s { awaits = await.Word; engine = Some e }) f (engine_name e) ws
      (ap (option_map (λ e'. record n { awaits = await.Word; engine = Some e' })) (engine_called_of e)) (ih _ (record {
        widens = r.widens;
        logs = r.logs;
        choices = r.choices;
        engines = p.1;
        bits = r.bits;
        kernels = r.kernels;
      }) refl)))
  item_read (With bits) first (names, is, some, called) r =
      let p = one_less s.more f.more (fold bit_or 0 bits) (filter_map bits_of items) r.bits in
      subst (λ x. Ends s (x ++ ws) f) (sym is) (stepped s (record s { awaits = await.Capability }) f (codes "cap") (names ++ ws)
      (reads_cap s may p.0) (names_first names bits ws s f (none_of s.more p.0) some called (ih _ (record {
        widens = r.widens;
        logs = r.logs;
        choices = r.choices;
        engines = r.engines;
        bits = p.1;
        kernels = r.kernels;
      }) refl)))
  item_read (On k) first (name, is, called) r =
      let p = one_less s.kernel f.kernel k (filter_map kernel_of items) r.kernels in
      let n = record s { awaits = await.Kernel } in
      subst (λ x. Ends s (x ++ ws) f) (sym is) (stepped s n f (codes "kernel") (name ∷ ws) (reads_kernel s may p.0)
      (stepped n (record s { awaits = await.Word; kernel = Some k }) f name ws
      (ap (option_map (λ k'. record n { awaits = await.Word; kernel = Some k' })) called) (ih _ (record {
        widens = r.widens;
        logs = r.logs;
        choices = r.choices;
        engines = r.engines;
        bits = r.bits;
        kernels = p.1;
      }) refl)))

all_read : (items : List Item) (ws : List (List ℕ)) (s f : Words) → AreItems items ws → Adds s items f → may_end s.awaits ≡ true → Ends s ws f
all_read [] ws s f are adds may =
    subst (λ x. Ends s x f) (sym are) (record { last = s; read = refl; adds = adds; ends = may })
all_read (item ∷ items) ws s f (first, rest, split, is, are) adds may =
    subst (λ x. Ends s x f) (sym split)
    (item_read items rest s f may (λ n a m. all_read items rest n f are a m) item first is adds)

contained : (e : Option Engine) (m : Option ℕ) (k : Option Kernel) (c : Option Container) → IsContainer e m k c
    → container_of e m k ≡ Some c
contained (Some e) m k c is = ap Some (sym is)
contained None None None c is = ap Some (sym is)
contained None None (Some k) c is = absurd is
contained None (Some m) k c is = absurd is

-- what is read to its end is what is asked for
end_is : (l : Words) (w : Wanted) (e : Option Engine) (m : Option ℕ) (k : Option Kernel) (a : Awaits)
    → Adds l [] (record { may_widen = w.may_widen; logs = w.logs; choice = w.choice; engine = e; more = m; kernel = k; awaits = a })
    → may_end l.awaits ≡ true → IsContainer e m k w.container → finished l ≡ Some w
end_is l w e m k a adds ends is =
    let widens : l.may_widen ≡ w.may_widen = same_truth _ _ adds.widens in
    let logs : l.logs ≡ w.logs = same_truth _ _ adds.logs in
    let choice : l.choice ≡ w.choice = same_option _ _ adds.choices in
    let engine : l.engine ≡ e = same_option _ _ adds.engines in
    let more : l.more ≡ m = same_option _ _ adds.bits in
    let kernel : l.kernel ≡ k = same_option _ _ adds.kernels in
    let has : container_of l.engine l.more l.kernel ≡ Some w.container =
    rw (engine, more, kernel) (contained e m k w.container is) in
    let whole : wanted_by l w.container ≡ w = rw (widens, logs, choice) refl in
    rw (ends, has) (ap Some whole)

pub is_asked : (ws : List (List ℕ)) (w : Wanted) → AskFor ws w → asked ws ≡ Some w
unfolding asked
is_asked ws w a =
    let f : Words = record {
      may_widen = w.may_widen;
      logs = w.logs;
      choice = w.choice;
      engine = a.engine;
      more = a.bits;
      kernel = a.kernel;
      awaits = await.Word;
    } in
    let r = all_read a.items ws no_words f a.are (record {
      widens = omega (arith, a.widens);
      logs = omega (arith, a.logs);
      choices = a.choices;
      engines = a.engines;
      bits = a.capabilities;
      kernels = a.kernels;
    }) refl in
    ap (option_and_then finished) r.read ∙ end_is r.last w a.engine a.bits a.kernel await.Word r.adds r.ends a.container
