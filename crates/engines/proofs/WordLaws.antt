-- What is read of words is what they ask for.
use Rattle.std.proofs.Common.{◌≡◌, ◌≢◌, ℕ, List, [], ◌∷◌, ◌++◌, ap, arith, map, refl, subst, sym, ◌∙◌}
use Rattle.std.proofs.lemmas.List.{append-nil}
use Rattle.std.specs.Prelude.{bit_or, Bool, true, false, codes, fold, Option, Some, None, is_some, option_and_then, option_map, option_to_list, unwrap_or, if◌then◌else◌}
use Rattle.std.specs.List.{filter_map}
use Rattle.std.specs.Str.{bytes_eq}
use Rattle.engines.specs.declared.settling.choice.Choice.{Choice}
use Rattle.engines.specs.declared.settling.choice.Choice.TheVariants.{First, Looser, Stricter, LikeLibseccomp}
use Rattle.engines.specs.declared.capabilities.Engine.{Engine}
use Rattle.engines.specs.declared.capabilities.Engine.TheVariants.{Docker, Podman, Containerd}
use Rattle.engines.specs.declared.kernels.Kernel.{Kernel}
use Rattle.engines.specs.declared.words.Awaits.{Awaits}
use Rattle.engines.specs.declared.words.Awaits.TheVariants as await
use Rattle.engines.specs.declared.words.Container.{Container}
use Rattle.engines.specs.declared.words.Wanted.{Wanted}
use Rattle.engines.specs.declared.words.Words.{Words}
use Rattle.engines.specs.Words.{AreItems, AskFor, IsContainer, Item, capability_called, choice_name, edition_called, engine_name}
use Rattle.engines.specs.Words.{bits_of}
use Rattle.engines.specs.Words.Item.{Widens, Logs, Chooses, For, With, On}
use Rattle.engines.specs.inner.Reading.{asked, capability_or, choice_called, container_of, engine_called, finished, may_end, no_words, unless, wanted_by}
use Rattle.engines.specs.inner.Reading.{with_all, with_bits, with_next_by, with_word}
use Rattle.engines.proofs.ReadLaws.{none_after}
use Rattle.engines.proofs.ItemLaws.{Adds, adds_bits, adds_choice, adds_engine, adds_kernel, adds_logging, adds_widening, some_is, split_if, text_is}

-- the words are things that make the last of the first
record Rest (s : Words) (ws : List (List ℕ)) (f : Words) : Type 0 where
  pub items : List Item
  pub are : AreItems items ws
  pub adds : Adds s items f

-- names of capabilities, and then such words
record Named (s : Words) (ws : List (List ℕ)) (f : Words) : Type 0 where
  pub names : List (List ℕ)
  pub rest : List (List ℕ)
  pub bits : List ℕ
  pub split : ws ≡ names ++ rest
  pub called : map capability_called names ≡ map Some bits
  pub follow : Rest (record s { more = Some (fold bit_or (unwrap_or s.more 0) bits) }) rest f

record SomeNamed (s : Words) (ws : List (List ℕ)) (f : Words) : Type 0 where
  pub named : Named s ws f
  pub not_none : named.names ≢ []

record OfEngine (s : Words) (ws : List (List ℕ)) (f : Words) : Type 0 where
  pub engine : Engine
  pub rest : List (List ℕ)
  pub split : ws ≡ engine_name engine ∷ rest
  pub follow : Rest (record s { awaits = await.Word; engine = Some engine }) rest f

record OfKernel (s : Words) (ws : List (List ℕ)) (f : Words) : Type 0 where
  pub kernel : Kernel
  pub name : List ℕ
  pub rest : List (List ℕ)
  pub split : ws ≡ name ∷ rest
  pub called : edition_called name ≡ Some kernel
  pub follow : Rest (record s { awaits = await.Word; kernel = Some kernel }) rest f

-- the words behind those that were read, by what may come next
abbrev Behind : Awaits → Words → List (List ℕ) → Words → Type 0
Behind await.Word s ws f = Rest s ws f
Behind await.Engine s ws f = OfEngine s ws f
Behind await.Kernel s ws f = OfKernel s ws f
Behind await.Capability s ws f = SomeNamed s ws f
Behind await.More s ws f = Named s ws f

-- behind a capability there are bits
abbrev IsFit : Awaits → Option ℕ → Type 0
IsFit await.More more = is_some more ≡ true
IsFit other more = Unit {0}

abbrev Sound : List (List ℕ) → Words → Type 0
Sound ws f = (a : Awaits) (s : Words) → s.awaits ≡ a → IsFit a s.more → with_all (Some s) ws ≡ Some f → Behind a s ws f

-- the names of choices and of engines
choice_is : (w : List ℕ) (c : Choice) → choice_called w ≡ Some c → w ≡ choice_name c
unfolding choice_called
choice_is w c =
    let P : Option Choice → Type 0 = λ o. o ≡ Some c → w ≡ choice_name c in
    split_if (bytes_eq w (codes "first")) _ _ P (λ t e. text_is w (codes "first") t ∙ ap choice_name (some_is First c e)) (λ _.
    split_if (bytes_eq w (codes "looser")) _ _ P (λ t e. text_is w (codes "looser") t ∙ ap choice_name (some_is Looser c e)) (λ _.
    split_if (bytes_eq w (codes "stricter")) _ _ P (λ t e. text_is w (codes "stricter") t ∙ ap choice_name (some_is Stricter c e)) (λ _.
    split_if (bytes_eq w (codes "like-libseccomp")) _ _ P
    (λ t e. text_is w (codes "like-libseccomp") t ∙ ap choice_name (some_is LikeLibseccomp c e)) (λ _ e. cc))))

engine_is : (w : List ℕ) (c : Engine) → engine_called w ≡ Some c → w ≡ engine_name c
unfolding engine_called
engine_is w c =
    let P : Option Engine → Type 0 = λ o. o ≡ Some c → w ≡ engine_name c in
    split_if (bytes_eq w (codes "docker")) _ _ P (λ t e. text_is w (codes "docker") t ∙ ap engine_name (some_is Docker c e)) (λ _.
    split_if (bytes_eq w (codes "podman")) _ _ P (λ t e. text_is w (codes "podman") t ∙ ap engine_name (some_is Podman c e)) (λ _.
    split_if (bytes_eq w (codes "containerd")) _ _ P
    (λ t e. text_is w (codes "containerd") t ∙ ap engine_name (some_is Containerd c e)) (λ _ e. cc)))

some_again : (m : Option ℕ) → is_some m ≡ true → m ≡ Some (unwrap_or m 0)
some_again (Some n) e = refl
some_again None e = cc

-- no further capability
named_none : (s : Words) (ws : List (List ℕ)) (f : Words) → is_some s.more ≡ true → Rest s ws f → Named s ws f
named_none s ws f some r = record {
  names = [];
  rest = ws;
  bits = [];
  split = refl;
  called = refl;
  follow = record {
    items = r.items;
    are = r.are;
    adds = record {
      widens = r.adds.widens;
      logs = r.adds.logs;
      choices = r.adds.choices;
      engines = r.adds.engines;
      bits = subst (λ o. option_to_list o ++ filter_map bits_of r.items ≡ option_to_list f.more) (some_again s.more some) r.adds.bits;
      kernels = r.adds.kernels;
    };
  };
}

nothing : (s : Words) → Rest s [] s
nothing s = record {
  items = [];
  are = refl;
  adds = record {
    widens = omega arith;
    logs = omega arith;
    choices = append-nil (option_to_list s.choice);
    engines = append-nil (option_to_list s.engine);
    bits = append-nil (option_to_list s.more);
    kernels = append-nil (option_to_list s.kernel);
  };
}

module _ (ws : List (List ℕ)) (f : Words) where
  no_more : {P : Type 0} → with_all None ws ≡ Some f → P
  no_more e = let n = none_after ws in cc

  after_unless : (b : Bool) (x : Words) → with_all (unless b x) ws ≡ Some f → (b ≡ false) × (with_all (Some x) ws ≡ Some f)
  after_unless true x e = no_more e
  after_unless false x e = (refl, e)

  module _ (ih : Sound ws f) (s : Words) where
    abbrev Reads : List ℕ → Option Words → Type 0
    Reads w o = with_all o ws ≡ Some f → Rest s (w ∷ ws) f

    widening : (w : List ℕ) → bytes_eq w (codes "widen") ≡ true → Reads w (unless s.may_widen (record s { awaits = await.Word; may_widen = true }))
    widening w t e =
        let p = after_unless s.may_widen (record s { awaits = await.Word; may_widen = true }) e in
        let r = ih await.Word (record s { awaits = await.Word; may_widen = true }) refl tt p.1 in
        record {
          items = Widens ∷ r.items;
          are = (codes "widen" ∷ [], ws, ap (λ v. v ∷ ws) (text_is w (codes "widen") t), refl, r.are);
          adds = adds_widening s f r.items await.Word p.0 r.adds;
        }

    logging : (w : List ℕ) → bytes_eq w (codes "log") ≡ true → Reads w (unless s.logs (record s { awaits = await.Word; logs = true }))
    logging w t e =
        let p = after_unless s.logs (record s { awaits = await.Word; logs = true }) e in
        let r = ih await.Word (record s { awaits = await.Word; logs = true }) refl tt p.1 in
        record {
          items = Logs ∷ r.items;
          are = (codes "log" ∷ [], ws, ap (λ v. v ∷ ws) (text_is w (codes "log") t), refl, r.are);
          adds = adds_logging s f r.items await.Word p.0 r.adds;
        }

    engine : (w : List ℕ) → bytes_eq w (codes "for") ≡ true → Reads w (unless (is_some s.engine) (record s { awaits = await.Engine }))
    engine w t e =
        let p = after_unless (is_some s.engine) (record s { awaits = await.Engine }) e in
        let r = ih await.Engine (record s { awaits = await.Engine }) refl tt p.1 in
        record {
          items = For r.engine ∷ r.follow.items;
          are = (
            codes "for" ∷ engine_name r.engine ∷ [],
            r.rest,
            ap (λ v. v ∷ ws) (text_is w (codes "for") t) ∙ ap (λ v. codes "for" ∷ v) r.split,
            refl,
            r.follow.are,
          );
          adds = adds_engine s f r.follow.items await.Word r.engine p.0 r.follow.adds;
        }

    kernel : (w : List ℕ) → bytes_eq w (codes "kernel") ≡ true → Reads w (unless (is_some s.kernel) (record s { awaits = await.Kernel }))
    kernel w t e =
        let p = after_unless (is_some s.kernel) (record s { awaits = await.Kernel }) e in
        let r = ih await.Kernel (record s { awaits = await.Kernel }) refl tt p.1 in
        record {
          items = On r.kernel ∷ r.follow.items;
          are = (
            codes "kernel" ∷ r.name ∷ [],
            r.rest,
            ap (λ v. v ∷ ws) (text_is w (codes "kernel") t) ∙ ap (λ v. codes "kernel" ∷ v) r.split,
            (r.name, refl, r.called),
            r.follow.are,
          );
          adds = adds_kernel s f r.follow.items await.Word r.kernel p.0 r.follow.adds;
        }

    capabilities : (w : List ℕ) → bytes_eq w (codes "cap") ≡ true → Reads w (unless (is_some s.more) (record s { awaits = await.Capability }))
    capabilities w t e =
        let p = after_unless (is_some s.more) (record s { awaits = await.Capability }) e in
        let some = ih await.Capability (record s { awaits = await.Capability }) refl tt p.1 in
        let r = some.named in
        record {
          items = With r.bits ∷ r.follow.items;
          are = (
            codes "cap" ∷ r.names,
            r.rest,
            ap (λ v. v ∷ ws) (text_is w (codes "cap") t) ∙ ap (λ v. codes "cap" ∷ v) r.split,
            (r.names, refl, some.not_none, r.called),
            r.follow.are,
          );
          adds = adds_bits s f r.follow.items await.Capability r.bits p.0
              (from_none s.more r.bits r.follow.items p.0 r.follow.adds);
        }
      where
        from_none : (m : Option ℕ) (bits : List ℕ) (items : List Item) → is_some m ≡ false
            → Adds (record s { awaits = await.Capability; more = Some (fold bit_or (unwrap_or m 0) bits) }) items f
            → Adds (record s { awaits = await.Capability; more = Some (fold bit_or 0 bits) }) items f
        from_none None bits items free a = a
        from_none (Some n) bits items free a = cc

    choosing : (w : List ℕ) (o : Option Choice) → choice_called w ≡ o
        → Reads w (option_and_then (λ c. unless (is_some s.choice) (record s { awaits = await.Word; choice = Some c })) o)
    choosing w None is e = no_more e
    choosing w (Some c) is e =
        let p = after_unless (is_some s.choice) (record s { awaits = await.Word; choice = Some c }) e in
        let r = ih await.Word (record s { awaits = await.Word; choice = Some c }) refl tt p.1 in
        record {
          items = Chooses c ∷ r.items;
          are = (choice_name c ∷ [], ws, ap (λ v. v ∷ ws) (choice_is w c is), refl, r.are);
          adds = adds_choice s f r.items await.Word c p.0 r.adds;
        }

    a_word : (w : List ℕ) → with_all (with_word s w) ws ≡ Some f → Rest s (w ∷ ws) f
    unfolding with_word
    a_word w =
        split_if (bytes_eq w (codes "widen")) _ _ (Reads w) (widening w) (λ _.
        split_if (bytes_eq w (codes "log")) _ _ (Reads w) (logging w) (λ _.
        split_if (bytes_eq w (codes "for")) _ _ (Reads w) (engine w) (λ _.
        split_if (bytes_eq w (codes "cap")) _ _ (Reads w) (capabilities w) (λ _.
        split_if (bytes_eq w (codes "kernel")) _ _ (Reads w) (kernel w) (λ _. choosing w (choice_called w) refl)))))

    an_engine : (w : List ℕ) (o : Option Engine) → engine_called w ≡ o
        → with_all (option_map (λ e. record s { awaits = await.Word; engine = Some e }) o) ws ≡ Some f → OfEngine s (w ∷ ws) f
    an_engine w None is e = no_more e
    an_engine w (Some n) is e = record {
      engine = n;
      rest = ws;
      split = ap (λ v. v ∷ ws) (engine_is w n is);
      follow = ih await.Word (record s { awaits = await.Word; engine = Some n }) refl tt e;
    }

    a_kernel : (w : List ℕ) (o : Option Kernel) → edition_called w ≡ o
        → with_all (option_map (λ k. record s { awaits = await.Word; kernel = Some k }) o) ws ≡ Some f → OfKernel s (w ∷ ws) f
    a_kernel w None is e = no_more e
    a_kernel w (Some k) is e = record {
      kernel = k;
      name = w;
      rest = ws;
      split = refl;
      called = is;
      follow = ih await.Word (record s { awaits = await.Word; kernel = Some k }) refl tt e;
    }

    -- one capability more
    named : (w : List ℕ) (b : ℕ) → capability_called w ≡ Some b → with_all (Some (with_bits s b)) ws ≡ Some f → SomeNamed s (w ∷ ws) f
    named w b is e =
        let r = ih await.More (with_bits s b) refl refl e in
        record {
          named = record {
            names = w ∷ r.names;
            rest = r.rest;
            bits = b ∷ r.bits;
            split = ap (λ v. w ∷ v) r.split;
            called = ap (λ o. o ∷ map capability_called r.names) is ∙ ap (λ v. Some b ∷ v) r.called;
            follow = again r.rest (fold bit_or (unwrap_or s.more 0) (b ∷ r.bits)) r.follow;
          };
          not_none = λ none. cc;
        }
      where
        again : (rest : List (List ℕ)) (m : ℕ) → Rest (record s { awaits = await.More; more = Some m }) rest f
            → Rest (record s { more = Some m }) rest f
        again rest m r = record {
          items = r.items;
          are = r.are;
          adds = record {
            widens = r.adds.widens;
            logs = r.adds.logs;
            choices = r.adds.choices;
            engines = r.adds.engines;
            bits = r.adds.bits;
            kernels = r.adds.kernels;
          };
        }

    -- a word behind the last capability, or one that has to be a capability
    more_or : (w : List ℕ) (o : Option ℕ) → capability_called w ≡ o → is_some s.more ≡ true
        → with_all (capability_or with_word s w o) ws ≡ Some f → Named s (w ∷ ws) f
    more_or w (Some b) is some e = (named w b is e).named
    more_or w None is some e = named_none s (w ∷ ws) f some (a_word w e)

    has_to_be : (w : List ℕ) (o : Option ℕ) → capability_called w ≡ o
        → with_all (capability_or (λ s' w'. None) s w o) ws ≡ Some f → SomeNamed s (w ∷ ws) f
    has_to_be w (Some b) is e = named w b is e
    has_to_be w None is e = no_more e

    -- a word behind what was read
    step : (w : List ℕ) (a : Awaits) → IsFit a s.more → with_all (with_next_by a s w) ws ≡ Some f → Behind a s (w ∷ ws) f
    step w await.Word fit e = a_word w e
    step w await.Engine fit e = an_engine w (engine_called w) refl e
    step w await.Kernel fit e = a_kernel w (edition_called w) refl e
    step w await.Capability fit e = has_to_be w (capability_called w) refl e
    step w await.More fit e = more_or w (capability_called w) refl fit e

-- nothing is behind the last word
at_end : (a : Awaits) (s : Words) → IsFit a s.more → may_end a ≡ true → Behind a s [] s
at_end await.Word s fit ends = nothing s
at_end await.Engine s fit ends = cc
at_end await.Kernel s fit ends = cc
at_end await.Capability s fit ends = cc
at_end await.More s fit ends = named_none s [] s fit (nothing s)

sound : (ws : List (List ℕ)) (f : Words) → may_end f.awaits ≡ true → Sound ws f
sound [] f ends a s is fit e =
    let same : s ≡ f = some_is s f e in
    subst (λ x. Behind a s [] x) same (at_end a s fit (subst (λ x. may_end x ≡ true) (sym (ap (λ (x : Words). x.awaits) same) ∙ is) ends))
sound (w ∷ ws) f ends a s is fit e =
    step ws f (sound ws f ends) s w a fit (subst (λ x. with_all (with_next_by x s w) ws ≡ Some f) is e)

container_is : (e : Option Engine) (m : Option ℕ) (k : Option Kernel) (c : Option Container) → container_of e m k ≡ Some c
    → IsContainer e m k c
container_is (Some e) m k c is = sym (some_is _ c is)
container_is None None None c is = sym (some_is None c is)
container_is None None (Some k) c is = cc
container_is None (Some m) k c is = cc

-- what is asked by what was read
finished_asks : (ws : List (List ℕ)) (f : Words) (w : Wanted) → with_all (Some no_words) ws ≡ Some f
    → (ends : Bool) → may_end f.awaits ≡ ends → (o : Option (Option Container)) → container_of f.engine f.more f.kernel ≡ o
    → (if ends then option_map (λ c. wanted_by f c) o else None) ≡ Some w → AskFor ws w
finished_asks ws f w read false ends o is e = cc
finished_asks ws f w read true ends None is e = cc
finished_asks ws f w read true ends (Some c) is e =
    let r = sound ws f ends await.Word no_words refl tt read in
    subst (AskFor ws) (some_is (wanted_by f c) w e) (record {
      items = r.items;
      are = r.are;
      widens = omega (arith, r.adds.widens);
      logs = omega (arith, r.adds.logs);
      choices = r.adds.choices;
      engine = f.engine;
      engines = r.adds.engines;
      bits = f.more;
      capabilities = r.adds.bits;
      kernel = f.kernel;
      kernels = r.adds.kernels;
      container = container_is f.engine f.more f.kernel c is;
    })

asks_when : (ws : List (List ℕ)) (w : Wanted) (o : Option Words) → with_all (Some no_words) ws ≡ o
    → option_and_then finished o ≡ Some w → AskFor ws w
asks_when ws w None read e = cc
asks_when ws w (Some f) read e = finished_asks ws f w read (may_end f.awaits) refl (container_of f.engine f.more f.kernel) refl e

pub asked_is : (ws : List (List ℕ)) (w : Wanted) → asked ws ≡ Some w → AskFor ws w
unfolding asked
asked_is ws w e = asks_when ws w (with_all (Some no_words) ws) refl e
