-- At a return of a plain profile that is not settled the calls are told apart, and the parts take no more.
use Rattle.std.proofs.Common.{◌≡◌, ℕ, suc, ◌+◌, ◌-◌, ◌^◌, ◌<◌, ◌≤◌, List, [], ◌∷◌, length, take, refl, ap, sym, ◌∙◌, subst, arith, inl, inr, ◌⊎◌, ⊎_elim}
use Rattle.std.specs.Prelude.{Any, Contains, Some, slice_get}
use Rattle.std.proofs.lemmas.Bool.{cases_lt}
use Rattle.std.proofs.lemmas.List.Elements.{All-cons, All-contains}
use Rattle.std.proofs.lemmas.Option.{get_or_from_slice_get, same_Some, slice_get-get_or, slice_get_within}
use Rattle.machines.specs.declared.arch.Arch.{Arch}
use Rattle.machines.specs.Arch.{token_of}
use Rattle.machines.specs.Numbers.{foreign_numbers}
use Rattle.machines.proofs.ArchLaws.{token_of-fits}
use Rattle.bpf_insn.specs.declared.instruction.Insn.{Insn}
use Rattle.profile.specs.Policy.{InOrder, Policy}
use Rattle.cert_state.specs.declared.literal.Lit.{Lit}
use Rattle.cert_state.specs.declared.literal.Lit.TheVariants.{In, Bits, NotBits}
use Rattle.cert_state.specs.Literals.{all_bits}
use Rattle.cert_state.specs.Points.{IsPoint, IsRange}
use Rattle.cert_state.specs.Entailment.{Entails, IsDead}
use Rattle.cert_state.proofs.BitLaws.{and_all}
use Rattle.cert_state.proofs.KnownLaws.{entailed_is_true}
use Rattle.cert_check.specs.Agree.{Agrees}
use Rattle.rule_compile.specs.Shape.{call, tokens}
use Rattle.certify.specs.inner.Apart.{AreTold, IsFirstOpen, IsHalved, IsLeftWhole, IsMachine, IsTold, IsWhole}
use Rattle.certify.specs.inner.Counts.{halves_cost, inside, return_cost}
use Rattle.certify.specs.inner.Leaf.{IsForeign, IsOfCalls, IsOfOne, LieIn, SaysThere}
use Rattle.certify.specs.inner.Meant.{IsMeant}
use Rattle.certify.specs.inner.Plain.{AreForeign, AreNear, AreOutBefore, HasNumbers, HasTokens, IsEnough, IsOnlyToken, IsUnsettled, PartsAtReturn}
use Rattle.certify.specs.inner.Plain.{TakesAtReturn}
use Rattle.certify.proofs.CountLaws.{inside_parts}
use Rattle.certify.proofs.ForeignLaws.{IsForeignNumber, IsNativeNumber, begins_behind, either, foreign_same, in_one, up_to_foreign}
use Rattle.certify.proofs.HalfLaws.{enough_high, enough_low, halves_exclude, halves_split, low_is_some, some_left, ten_at_most, ten_or_high}
use Rattle.certify.proofs.LeadLaws.{first_asks, rest_point}
use Rattle.certify.proofs.LeafLaws.{call_is_record, holds_of_points, leaf_agrees, own_is_small, ruled_out}
use Rattle.certify.proofs.PointFacts.{point_or_not}
use Rattle.certify.proofs.RoomLaws.{tokens_total}
use Rattle.certify.proofs.TokenLaws.{fewer_before, fresh_token, new_token}

-- a number that is stated, and one that is excluded
only_bits : (ls : List Lit) (u n : ℕ) → IsPoint (Bits 1 all_bits n ∷ ls) 1 u → u ≡ n
only_bits ls u n at = sym (and_all u at.0) ∙ first_asks (Bits 1 all_bits n) ls 1 u at refl refl

not_bits : (ls : List Lit) (n : ℕ) → IsPoint (NotBits 1 all_bits n ∷ ls) 1 n → ⊥
not_bits ls n at = first_asks (NotBits 1 all_bits n) ls 1 n at refl refl (and_all n at.0)

-- what is said of more is said of a part
says_part : (policy : Policy) (known : List Lit) (word : ℕ) (l : Lit) → SaysThere policy known word → SaysThere policy (l ∷ known) word
says_part policy known word l says t u at_t at_u = says t u (rest_point l known 1 t at_t) (rest_point l known 0 u at_u)

module _ (policy : Policy) (known : List Lit) (word nodes : ℕ) (is : IsUnsettled policy known word nodes) (lo hi from to : ℕ)
    (numbers : IsRange known 0 lo hi) (token_range : IsRange known 1 from to) where
  abbrev machines : List Arch
  machines = policy.machines

  abbrev calls : List Lit → ℕ
  calls ls = inside 512 machines ls

  order : InOrder machines
  order = is.profile.machines_in_order

  takes : TakesAtReturn policy known word nodes
  takes = is.takes

  short : length known ≤ 512
  short = let s = takes.short in omega (arith, s)

  -- it would agree
  differs : IsForeign policy known ⊎ IsOfOne policy known word lo hi → ⊥
  differs h =
      is.unsettled (leaf_agrees policy known word lo hi from to order short is.plain.rules is.plain.small takes.of_calls takes.says
      numbers token_range h)

  -- ---- several tokens

  token_is : (n u : ℕ) → Entails known (Bits 1 all_bits n) → IsPoint known 1 u → u ≡ n
  token_is n u h at =
      sym (and_all u at.0)
      ∙ entailed_is_true (call u lo) (call_is_record u lo at.0 numbers.least.0) known
      (holds_of_points known u lo takes.of_calls at numbers.least) (Bits 1 all_bits n) h

  module _ (several : from ≡ to → ⊥) where
    told_is_out : (t : ℕ) → IsTold known t → IsPoint known 1 t → ⊥
    told_is_out t (inl own) at = several (token_is t from own token_range.least ∙ sym (token_is t to own token_range.greatest))
    told_is_out t (inr other) at = ruled_out known t lo takes.of_calls numbers.least other at

    pub some_open : AreTold known machines → ⊥
    some_open told =
        differs (inl (λ arch listed at. told_is_out (token_of arch)
        (told listed.0 arch (slice_get-get_or machines listed.0 arch listed.1 ∙ ap Some listed.2)) at))

    module _ (one other : Lit) (open_one : IsFirstOpen known machines one other) where
      abbrev t : ℕ
      t = token_of open_one.arch

      abbrev at : ℕ
      at = open_one.at

      within : at < length machines
      within = slice_get_within machines at open_one.arch open_one.there

      out : AreOutBefore policy known at
      out k arch less there point = told_is_out (token_of arch) (open_one.before k arch less there) point

      listed : Contains machines open_one.arch
      listed = (at, within, get_or_from_slice_get machines at open_one.arch open_one.arch open_one.there)

      fresh : tokens (take (at + 1) machines) ≡ tokens (take at machines) + 1
      fresh =
          new_token machines at open_one.arch open_one.arch within
          (get_or_from_slice_get machines at open_one.arch open_one.arch open_one.there)
          (fresh_token machines at t (λ k a less there same.
          open_one.not_told (subst (IsTold known) same (open_one.before k a less there))))

      not_before : (h : HasTokens policy known nodes takes.literals) → h.at ≤ at
      not_before h = ⊎_elim
          (λ (before : at < h.at). absurd (⊎_elim
          (λ (point : IsPoint known 1 t). h.out at open_one.arch before open_one.there point)
          (λ (told : Entails known (NotBits 1 all_bits t)). open_one.not_told (inr told))
          (point_or_not known 1 from to token_range t (token_of-fits open_one.arch))))
          (λ (later : h.at ≤ at). later)
          (cases_lt at h.at)

      own_takes : (h : HasTokens policy known nodes takes.literals)
          → TakesAtReturn policy (Bits 1 all_bits t ∷ known) word (halves_cost 10 (calls (Bits 1 all_bits t ∷ known)))
      own_takes h = record {
        of_calls = All-cons IsOfCalls (Bits 1 all_bits t) known (refl, omega arith) takes.of_calls;
        says = says_part policy known word (Bits 1 all_bits t) takes.says;
        literals = 10;
        short = let s = takes.short in let height = h.height in let later = not_before h in omega (arith, s, height, later, within);
        some = omega arith;
        stage = inr (record {
          arch = open_one.arch;
          listed = listed;
          only = λ u point. only_bits known u t point;
          halvings = 10;
          enough = inl refl;
          cost = omega arith;
          height = omega arith;
        });
      }

      other_takes : (h : HasTokens policy known nodes takes.literals)
          → TakesAtReturn policy (NotBits 1 all_bits t ∷ known) word (return_cost machines (at + 1) (calls (NotBits 1 all_bits t ∷ known)))
      other_takes h = record {
        of_calls = All-cons IsOfCalls (NotBits 1 all_bits t) known (refl, omega arith) takes.of_calls;
        says = says_part policy known word (NotBits 1 all_bits t) takes.says;
        literals = length machines - (at + 1) + 10;
        short = let s = takes.short in let height = h.height in let later = not_before h in omega (arith, s, height, later, within);
        some = omega arith;
        stage = inl (record {
          at = at + 1;
          few = omega (arith, within);
          out = λ k arch less there point. ⊎_elim
              (λ (before : k < at). out k arch before there (rest_point (NotBits 1 all_bits t) known 1 (token_of arch) point))
              (λ (here : at ≤ k).
              let e : k ≡ at = omega (arith, less, here) in
              let same : arch ≡ open_one.arch = same_Some arch open_one.arch (sym there ∙ ap (slice_get machines) e ∙ open_one.there) in
              not_bits known t (subst (λ a. IsPoint (NotBits 1 all_bits t ∷ known) 1 (token_of a)) same point))
              (cases_lt k at);
          cost = omega arith;
          height = omega arith;
        });
      }

      parts_of_tokens : (h : HasTokens policy known nodes takes.literals)
          → PartsAtReturn policy known word nodes (Bits 1 all_bits t) (NotBits 1 all_bits t)
      parts_of_tokens h = record {
        first = halves_cost 10 (calls (Bits 1 all_bits t ∷ known));
        second = return_cost machines (at + 1) (calls (NotBits 1 all_bits t ∷ known));
        first_takes = own_takes h;
        second_takes = other_takes h;
        enough =
            let total = tokens_total policy known t at within fresh in
            let cost = h.cost in
            let fewer = fewer_before machines h.at at (not_before h) (omega (arith, within)) in
            omega (arith, total, cost, fewer);
      }

      pub tokens_parted : PartsAtReturn policy known word nodes one other
      tokens_parted =
          subst (λ l. PartsAtReturn policy known word nodes l other) (sym open_one.one_is)
          (subst (λ l. PartsAtReturn policy known word nodes (Bits 1 all_bits t) l) (sym open_one.other_is) (⊎_elim
          parts_of_tokens
          (λ (h : HasNumbers policy known nodes takes.literals).
          absurd (several (h.only from token_range.least ∙ sym (h.only to token_range.greatest))))
          takes.stage))

  -- ---- one token

  module _ (alone : from ≡ to) where
    the_token : (u : ℕ) → IsPoint known 1 u → u ≡ from
    the_token u at = let b = token_range.between u at in omega (arith, b, alone)

    module _ (arch : Arch) (machine : IsMachine machines from arch) where
      in_list : Contains machines arch
      in_list = machine.listed

      only : IsOnlyToken known arch
      only u at = the_token u at ∙ sym machine.has_token

      token_here : IsPoint known 1 (token_of arch)
      token_here = subst (IsPoint known 1) (sym machine.has_token) token_range.least

      one_range : IsRange known 1 (token_of arch) (token_of arch)
      one_range = record {
        least = token_here;
        greatest = token_here;
        between = λ u at. let e = only u at in (omega (arith, e), omega (arith, e));
      }

      whole_is_settled : (lo ≡ hi) ⊎ ((policy.default_word ≡ word) ⊎ LieIn lo hi (foreign_numbers machines arch)) → ⊥
      whole_is_settled h = differs (inr (record { arch = arch; listed = in_list; token = one_range; numbers = h }))

      small : (u : ℕ) → IsPoint known 0 u → IsNativeNumber machines arch u → u < 512
      small u at own =
          own_is_small policy known word lo hi from to order short is.plain.rules is.plain.small takes.of_calls takes.says numbers
          token_range arch in_list one_range (λ e. whole_is_settled (inr (inl e))) u at own

      some_own : LieIn lo hi (foreign_numbers machines arch) → ⊥
      some_own h = whole_is_settled (inr (inr h))

      upward : lo ≤ hi
      upward = (numbers.between lo numbers.least).1

      not_whole : IsWhole (foreign_numbers machines arch) lo hi → ⊥
      not_whole (inl same) = whole_is_settled (inl same)
      not_whole (inr (large, none)) = ⊎_elim
          (λ (own : IsNativeNumber machines arch hi). let s = small hi numbers.greatest own in omega (arith, s, large))
          (λ (foreign : IsForeignNumber machines arch hi). ⊎_elim
          (λ (low : lo < 0x40000000). none (begins_behind machines order is.plain.small arch in_list lo hi low foreign))
          (λ (high : 0x40000000 ≤ lo). some_own (in_one machines order is.plain.small arch in_list lo hi
          (up_to_foreign machines order is.plain.small arch in_list lo hi foreign high upward) foreign))
          (cases_lt lo 0x40000000))
          (either machines order is.plain.small arch in_list hi numbers.greatest.0)

      -- so many halvings are left of this machine's numbers
      record Halvings : Type 0 where
        halvings : ℕ
        enough : IsEnough policy known arch halvings
        cost : halves_cost halvings (calls known) ≤ nodes
        height : halvings ≤ takes.literals

      halvings_left : Halvings
      halvings_left = ⊎_elim
          (λ (h : HasTokens policy known nodes takes.literals). record {
            halvings = 10;
            enough = inl refl;
            cost = let cost = h.cost in omega (arith, cost);
            height = let height = h.height in omega (arith, height);
          })
          (λ (h : HasNumbers policy known nodes takes.literals).
          let token : token_of h.arch ≡ token_of arch = sym (h.only from token_range.least) ∙ sym machine.has_token in
          let same = foreign_same machines order h.arch arch h.listed in_list token in
          record {
            halvings = h.halvings;
            enough = ⊎_elim
                (λ (ten : h.halvings ≡ 10). inl ten)
                (λ (more : AreForeign policy known h.arch ⊎ ((h.halvings < 10) × AreNear known (2 ^ h.halvings))). ⊎_elim
                (λ (foreign : AreForeign policy known h.arch). inr (inl (λ u point.
                subst (λ ns. Any (Rattle.machines.specs.Numbers.IsWithin u) ns) same (foreign u point))))
                (λ (near : (h.halvings < 10) × AreNear known (2 ^ h.halvings)). inr (inr near))
                more)
                h.enough;
            cost = h.cost;
            height = h.height;
          })
          takes.stage

      module _ (cut : ℕ) (middle : Rattle.certify.specs.inner.Apart.IsMiddle (foreign_numbers machines arch) lo hi cut) where
        h : Halvings
        h = halvings_left

        apart : lo ≡ hi → ⊥
        apart same = let a = middle.from in let b = middle.upto in omega (arith, a, b, same)

        some : h.halvings ≡ 0 → ⊥
        some = some_left policy order is.plain.small known arch in_list lo hi h.halvings numbers apart h.enough some_own

        left : h.halvings ≡ suc (h.halvings - 1)
        left = omega (arith, some)

        part : (a b : ℕ) → IsEnough policy (In 0 a b ∷ known) arch (h.halvings - 1)
            → TakesAtReturn policy (In 0 a b ∷ known) word (halves_cost (h.halvings - 1) (calls (In 0 a b ∷ known)))
        part a b enough = record {
          of_calls = All-cons IsOfCalls (In 0 a b) known (tt, omega arith) takes.of_calls;
          says = says_part policy known word (In 0 a b) takes.says;
          literals = h.halvings - 1;
          short = let s = takes.short in let height = h.height in omega (arith, s, height, some);
          some = omega arith;
          stage = inr (record {
            arch = arch;
            listed = in_list;
            only = λ u point. only u (rest_point (In 0 a b) known 1 u point);
            halvings = h.halvings - 1;
            enough = enough;
            cost = omega arith;
            height = omega arith;
          });
        }

        pub numbers_parted : PartsAtReturn policy known word nodes (In 0 0 cut) (In 0 (cut + 1) all_bits)
        numbers_parted = record {
          first = halves_cost (h.halvings - 1) (calls (In 0 0 cut ∷ known));
          second = halves_cost (h.halvings - 1) (calls (In 0 (cut + 1) all_bits ∷ known));
          first_takes = part 0 cut (enough_low policy order is.plain.small known arch in_list lo hi cut h.halvings numbers middle h.enough
              some_own small (h.halvings - 1) left);
          second_takes = part (cut + 1) all_bits (enough_high policy order is.plain.small known arch in_list lo hi cut h.halvings numbers
              middle h.enough some_own small (h.halvings - 1) left);
          enough =
              let cost = h.cost in
              let both = halves_split h.halvings (calls (In 0 0 cut ∷ known)) (calls (In 0 (cut + 1) all_bits ∷ known)) (calls known) some
              (ten_at_most policy order is.plain.small known arch in_list lo hi cut h.halvings numbers middle h.enough some_own small)
              (inside_parts 512 machines known (In 0 0 cut) (In 0 (cut + 1) all_bits) (halves_exclude cut))
              (low_is_some policy order is.plain.small known arch in_list lo hi cut h.halvings numbers middle h.enough some_own small
              takes.of_calls token_here)
              (ten_or_high policy order is.plain.small known arch in_list lo hi cut h.halvings numbers middle h.enough some_own small
              takes.of_calls token_here) in
              omega (arith, cost, both);
        }

    pub not_left_whole : IsLeftWhole machines from lo hi → ⊥
    not_left_whole (inl none) =
        differs (inl (λ arch listed at. All-contains (λ (a : Arch). token_of a ≡ from → ⊥) machines arch none listed (the_token (token_of arch) at)))
    not_left_whole (inr (arch, machine, whole)) = not_whole arch machine whole

    pub halves_parted : (one other : Lit) → IsHalved machines from lo hi one other → PartsAtReturn policy known word nodes one other
    halves_parted one other halved =
        subst (λ l. PartsAtReturn policy known word nodes l other) (sym halved.one_is)
        (subst (λ l. PartsAtReturn policy known word nodes (In 0 0 halved.cut) l) (sym halved.other_is)
        (numbers_parted halved.arch halved.machine halved.cut halved.middle))

-- a return of a plain profile that does not agree yet
pub unsettled_there : (policy : Policy) (p : List Insn) → IsMeant policy p → (known now : List Lit) (word nodes : ℕ) → now ≡ known
    → TakesAtReturn policy known word nodes → (IsDead known → ⊥) → (Agrees policy [] [] now word → ⊥) → IsUnsettled policy now word nodes
unsettled_there policy p meant known now word nodes same takes alive unsettled = record {
  profile = meant.profile;
  plain = meant.plain;
  takes = subst (λ ls. TakesAtReturn policy ls word nodes) (sym same) takes;
  alive = λ dead. alive (subst IsDead same dead);
  unsettled = unsettled;
}
