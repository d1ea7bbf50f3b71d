-- What the things that words ask for add to what was read.
use Rattle.std.proofs.Common.{◌≡◌, ℕ, ◌+◌, List, [], ◌∷◌, ◌++◌, ap, arith, refl, length}
use Rattle.std.proofs.lemmas.Slice.Eq.{bytes_eq-Decides}
use Rattle.std.specs.Prelude.{bit_or, Bool, true, false, filter, fold, Option, Some, None, is_some, option_to_list, if◌then◌else◌}
use Rattle.std.specs.List.{filter_map}
use Rattle.std.specs.Str.{bytes_eq}
use Rattle.engines.specs.declared.settling.choice.Choice.{Choice}
use Rattle.engines.specs.declared.capabilities.Engine.{Engine}
use Rattle.engines.specs.declared.kernels.Kernel.{Kernel}
use Rattle.engines.specs.declared.words.Awaits.{Awaits}
use Rattle.engines.specs.declared.words.Words.{Words}
use Rattle.engines.specs.Words.{Item, times}
use Rattle.engines.specs.Words.{bits_of, choice_of, engine_of, is_logging, is_widening, kernel_of}
use Rattle.engines.specs.Words.Item.{Widens, Logs, Chooses, For, With, On}

-- what things add to what was read
pub record Adds (s : Words) (items : List Item) (f : Words) : Type 0 where
  pub widens : times s.may_widen + length (filter is_widening items) ≡ times f.may_widen
  pub logs : times s.logs + length (filter is_logging items) ≡ times f.logs
  pub choices : option_to_list s.choice ++ filter_map choice_of items ≡ option_to_list f.choice
  pub engines : option_to_list s.engine ++ filter_map engine_of items ≡ option_to_list f.engine
  pub bits : option_to_list s.more ++ filter_map bits_of items ≡ option_to_list f.more
  pub kernels : option_to_list s.kernel ++ filter_map kernel_of items ≡ option_to_list f.kernel

-- the first thing of a kind
pub one_more : {X : Type 0} (o : Option X) (x : X) (xs ys : List X) → is_some o ≡ false → x ∷ xs ≡ ys → option_to_list o ++ x ∷ xs ≡ ys
one_more None x xs ys free e = e
one_more (Some y) x xs ys free e = cc

-- a kind of which one thing stands is free before it
pub one_less : {X : Type 0} (o p : Option X) (x : X) (xs : List X) → option_to_list o ++ x ∷ xs ≡ option_to_list p
    → (is_some o ≡ false) × (x ∷ xs ≡ option_to_list p)
one_less None p x xs e = (refl, e)
one_less (Some y) None x xs e = cc
one_less (Some y) (Some z) x xs e = cc

pub once_less : (b c : Bool) (n : ℕ) → times b + (1 + n) ≡ times c → (b ≡ false) × (times true + n ≡ times c)
once_less false c n e = (refl, omega (arith, e))
once_less true false n e = absurd (omega (arith, e))
once_less true true n e = absurd (omega (arith, e))

-- the same option, and the same truth
pub same_option : {X : Type 0} (o p : Option X) → option_to_list o ++ [] ≡ option_to_list p → o ≡ p
same_option None None e = refl
same_option None (Some y) e = cc
same_option (Some x) None e = cc
same_option (Some x) (Some y) e = cc

pub same_truth : (b c : Bool) → times b + 0 ≡ times c → b ≡ c
same_truth false false e = refl
same_truth true true e = refl
same_truth false true e = absurd (omega (arith, e))
same_truth true false e = absurd (omega (arith, e))

pub some_is : {X : Type 0} (x y : X) → Some x ≡ Some y → x ≡ y
some_is x y e = cc

pub text_is : (a b : List ℕ) → bytes_eq a b ≡ true → a ≡ b
text_is a b e = (bytes_eq-Decides a b).0 e

pub split_if : {X : Type 0} (b : Bool) (x y : X) (P : X → Type 0) → (b ≡ true → P x) → (b ≡ false → P y) → P (if b then x else y)
split_if b x y P t f =
    elim b as (λ v. (v ≡ true → P x) → (v ≡ false → P y) → P (if v then x else y)) [ true ↦ λ t e. t refl | false ↦ λ t e. e refl ] t f

-- a thing of a kind that was free
module _ (s f : Words) (items : List Item) where
  pub adds_widening : (a : Awaits) → s.may_widen ≡ false → Adds (record s { awaits = a; may_widen = true }) items f → Adds s (Widens ∷ items) f
  adds_widening a free r = record {
    widens = let none : times s.may_widen ≡ 0 = ap times free in omega (arith, none, r.widens);
    logs = r.logs;
    choices = r.choices;
    engines = r.engines;
    bits = r.bits;
    kernels = r.kernels;
  }

  pub adds_logging : (a : Awaits) → s.logs ≡ false → Adds (record s { awaits = a; logs = true }) items f → Adds s (Logs ∷ items) f
  adds_logging a free r = record {
    widens = r.widens;
    logs = let none : times s.logs ≡ 0 = ap times free in omega (arith, none, r.logs);
    choices = r.choices;
    engines = r.engines;
    bits = r.bits;
    kernels = r.kernels;
  }

  pub adds_choice : (a : Awaits) (c : Choice) → is_some s.choice ≡ false → Adds (record s { awaits = a; choice = Some c }) items f
      → Adds s (Chooses c ∷ items) f
  adds_choice a c free r = record {
    widens = r.widens;
    logs = r.logs;
    choices = one_more s.choice c (filter_map choice_of items) (option_to_list f.choice) free r.choices;
    engines = r.engines;
    bits = r.bits;
    kernels = r.kernels;
  }

  pub adds_engine : (a : Awaits) (e : Engine) → is_some s.engine ≡ false → Adds (record s { awaits = a; engine = Some e }) items f
      → Adds s (For e ∷ items) f
  adds_engine a e free r = record {
    widens = r.widens;
    logs = r.logs;
    choices = r.choices;
    engines = one_more s.engine e (filter_map engine_of items) (option_to_list f.engine) free r.engines;
    bits = r.bits;
    kernels = r.kernels;
  }

  pub adds_bits : (a : Awaits) (bits : List ℕ) → is_some s.more ≡ false
      → Adds (record s { awaits = a; more = Some (fold bit_or 0 bits) }) items f → Adds s (With bits ∷ items) f
  adds_bits a bits free r = record {
    widens = r.widens;
    logs = r.logs;
    choices = r.choices;
    engines = r.engines;
    bits = one_more s.more (fold bit_or 0 bits) (filter_map bits_of items) (option_to_list f.more) free r.bits;
    kernels = r.kernels;
  }

  pub adds_kernel : (a : Awaits) (k : Kernel) → is_some s.kernel ≡ false → Adds (record s { awaits = a; kernel = Some k }) items f
      → Adds s (On k ∷ items) f
  adds_kernel a k free r = record {
    widens = r.widens;
    logs = r.logs;
    choices = r.choices;
    engines = r.engines;
    bits = r.bits;
    kernels = one_more s.kernel k (filter_map kernel_of items) (option_to_list f.kernel) free r.kernels;
  }
