-- A profile and the one that allows calls, together: these calls are allowed, and of each other record the first one counts.
use Rattle.std.proofs.Common.{◌≡◌, ℕ, zero, suc, ◌+◌, ◌*◌, ◌/◌, ◌%◌, ◌^◌, ◌<◌, ◌≤◌, inl, inr, true, false, not, ◌&&◌, ◌||◌, List, [], ◌∷◌, ◌++◌, map, refl, sym, ◌∙◌, ap, subst, arith, length, get_or, take, Some}
use Rattle.std.specs.Prelude.{◌==◌, Bool, IfOk, Result, Ok, Err, find, int_lt, nat_lt, string_bytes, unwrap_or, if◌then◌else◌}
use Rattle.std.specs.List.{All, Contains, list_all, list_any}
use Rattle.std.specs.Option.{option_map}
use Rattle.std.specs.Int.{w32, cast_signed}
use Rattle.std.specs.declared.alloc.AllocError.{AllocError}
use Rattle.std.proofs.lemmas.Bool.{cases_Bool, le-ltb, ltb-true}
use Rattle.std.proofs.lemmas.Bool.Decides.{nat_tests}
use Rattle.std.proofs.lemmas.Int.{ints}
use Rattle.std.proofs.lemmas.Nat.Bits.{and_high}
use Rattle.std.proofs.lemmas.List.{map-append, take_more}
use Rattle.std.proofs.lemmas.List.Elements.{All-contains, All-contains_itself, All-head, All-nil, All-push, All-tail, All-weaker}
use Rattle.std.proofs.lemmas.List.Folds.{list_any-append}
use Rattle.call_record.proofs.StrictestLemmas.{is_stricter-rank, rank}
use Rattle.call_record.specs.Verdict.{action, allow, is_stricter, kill_process}
use Rattle.call_record.specs.Words.{IsRecord, word}
use Rattle.machines.specs.declared.arch.Arch.{Arch}
use Rattle.machines.specs.Arch.{token_of}
use Rattle.machines.specs.Numbers.{has_call}
use Rattle.profile.specs.Build.{IsBuiltOf, KeepsOnce}
use Rattle.profile.specs.Build as build
use Rattle.profile.specs.Policy.{IsProfile, Policy}
use Rattle.profile.specs.Rule.{argument_of}
use Rattle.profile.specs.Said.{is_native, matches, meets, said}
use Rattle.profile.specs.declared.conditions.Cond.{Cond}
use Rattle.profile.specs.declared.rules.Rule.{Rule}
use Rattle.profile.proofs.KeptLaws.{kept_in}
use Rattle.profile.proofs.OneBuilt.{one_order}
use Rattle.together.specs.Combined.{IsBundle, MeansTogether}
use Rattle.together.specs.Together.{SaysTogether}
use Rattle.together.specs.Word.{is_laxest, laxest_of}
use Rattle.together.specs.declared.way.Way.TheVariants.{Laxest}
use Rattle.call_groups.specs.Groups.{calls_of_all}
use Rattle.wording.specs.Told.{was_done}
use Rattle.allow_groups.specs.Allowed.{MeansWith, TellsGrown, TellsLines, calls_for}
use Rattle.allow_groups.specs.Report.{report}
use Rattle.allow_groups.specs.declared.grown.Grown.{Grown}
use Rattle.allow_groups.specs.Allowing.{AllowsAll, AreRulesOf, IsAllowing, call_of}
use Rattle.allow_groups.specs.Calls.{calls_on, is_call, is_of}
use Rattle.allow_groups.specs.declared.calls.MachineCall.{MachineCall}

-- ---- the rules

pub no_rules : AreRulesOf [] []
no_rules = record { of_all = refl; allow_all = All-nil AllowsAll }

rules_more : (calls : List MachineCall) (rules : List Rule) (call : MachineCall) (rule : Rule) → AreRulesOf calls rules
    → call_of rule ≡ call → AllowsAll rule → AreRulesOf (calls ++ call ∷ []) (rules ++ rule ∷ [])
rules_more calls rules call rule are of allows = record {
  of_all = map-append call_of rules (rule ∷ []) ∙ ap (λ l. l ++ call_of rule ∷ []) are.of_all ∙ ap (λ c. calls ++ c ∷ []) of;
  allow_all = All-push AllowsAll rules rule are.allow_all allows;
}

pub rules_step : (calls : List MachineCall) (i : ℕ) (d : MachineCall) (rules new : List Rule) (rule : Rule) → i < length calls
    → AreRulesOf (take i calls) rules → call_of rule ≡ get_or calls i d → AllowsAll rule → new ≡ rules ++ rule ∷ []
    → AreRulesOf (take (i + 1) calls) new
rules_step calls i d rules new rule within are of allows added =
    subst (λ xs. AreRulesOf (take (i + 1) calls) xs) (sym added)
    (subst (λ xs. AreRulesOf xs (rules ++ rule ∷ [])) (sym (take_more calls i d within))
    (rules_more (take i calls) rules (get_or calls i d) rule are of allows))

-- ---- tests of lists

or_right : (a b : Bool) → b ≡ true → (a || b) ≡ true
or_right true b h = refl
or_right false b h = h

any_in : (f : Rule → Bool) (xs : List Rule) (x : Rule) → Contains xs x → f x ≡ true → list_any f xs ≡ true
any_in f [] x c h = absurd (omega (arith, c.1))
any_in f (y ∷ ys) x (zero, lt, at) h = let here : f y ≡ true = ap f at ∙ h in rw here refl
any_in f (y ∷ ys) x (suc k, lt, at) h = or_right (f y) (list_any f ys) (any_in f ys x (k, omega (arith, lt), at) h)

or_absorbs : (a b : Bool) → (b ≡ true → a ≡ true) → (a || (b || false)) ≡ a
or_absorbs true b h = refl
or_absorbs false true h = sym (h refl)
or_absorbs false false h = refl

kept_any : (f : Rule → Bool) (rules kept : List Rule) → KeepsOnce rules kept → list_any f kept ≡ list_any f rules
kept_any f _ _ build.none = refl
kept_any f _ _ (build.first rules kept rule h new) =
    list_any-append f kept (rule ∷ []) ∙ ap (λ b. b || list_any f (rule ∷ [])) (kept_any f rules kept h)
    ∙ sym (list_any-append f rules (rule ∷ []))
kept_any f _ _ (build.again rules kept rule h has) =
    kept_any f rules kept h
    ∙ sym (list_any-append f rules (rule ∷ []) ∙ or_absorbs (list_any f rules) (f rule) (any_in f rules rule has))

kept_all : (rules kept : List Rule) → KeepsOnce rules kept → All AllowsAll rules → All AllowsAll kept
kept_all rules kept h all =
    All-weaker (Contains kept) AllowsAll (λ x has. All-contains AllowsAll rules x all (kept_in rules kept h x has)) kept
    (All-contains_itself kept)

-- ---- the first rule that matches

find_here : {X : Type 0} (test : X → Bool) (x : X) (xs : List X) → test x ≡ true → find test (x ∷ xs) ≡ Some x
find_here test x xs h = rw h refl

find_past : {X : Type 0} (test : X → Bool) (x : X) (xs : List X) → test x ≡ false → find test (x ∷ xs) ≡ find test xs
find_past test x xs h = rw h refl

any_here : (test : Rule → Bool) (x : Rule) (xs : List Rule) → test x ≡ true → list_any test (x ∷ xs) ≡ true
any_here test x xs h = rw h refl

any_past : (test : Rule → Bool) (x : Rule) (xs : List Rule) → test x ≡ false → list_any test (x ∷ xs) ≡ list_any test xs
any_past test x xs h = rw h refl

and_end : (a b : Bool) → (a && b && true) ≡ (a && b)
and_end true true = refl
and_end true false = refl
and_end false true = refl
and_end false false = refl

-- the test of a rule without conditions is that of its call
abbrev is_for : List ℕ → Rule → Bool
is_for r rule = is_call r (call_of rule)

matches_all : (rule : Rule) (r : List ℕ) → AllowsAll rule → matches rule r ≡ is_for r rule
matches_all rule r allows =
    ap (λ (cs : List Cond). word r 1 == token_of rule.arch && word r 0 == rule.nr && list_all (λ c. meets c (argument_of r c.index)) cs)
    allows.no_conditions
    ∙ and_end (word r 1 == token_of rule.arch) (word r 0 == rule.nr)

abbrev word_by : List Rule → List ℕ → ℕ
word_by rules r = unwrap_or (option_map (λ (rule : Rule). rule.word) (find (λ rule. matches rule r) rules)) kill_process

abbrev word_if : Bool → ℕ
word_if is = if is then allow else kill_process

found_word : (rules : List Rule) (r : List ℕ) → All AllowsAll rules → word_by rules r ≡ word_if (list_any (is_for r) rules)
found_word [] r all = refl
found_word (rule ∷ rules) r all =
    let head : AllowsAll rule = All-head AllowsAll rule rules all in
    let rest = found_word rules r (All-tail AllowsAll rule rules all) in
    let same : matches rule r ≡ is_for r rule = matches_all rule r head in
    elim (cases_Bool (matches rule r)) [
      | inl hit ↦
          ap (λ o. unwrap_or (option_map (λ (x : Rule). x.word) o) kill_process) (find_here (λ x. matches x r) rule rules hit)
          ∙ head.word
          ∙ sym (ap word_if (any_here (is_for r) rule rules (sym same ∙ hit)))
      | inr miss ↦
          ap (λ o. unwrap_or (option_map (λ (x : Rule). x.word) o) kill_process) (find_past (λ x. matches x r) rule rules miss)
          ∙ rest
          ∙ sym (ap word_if (any_past (is_for r) rule rules (sym same ∙ miss)))
    ]

-- ---- what the profile says

any_map : (f : MachineCall → Bool) (rules : List Rule) → list_any (λ rule. f (call_of rule)) rules ≡ list_any f (map call_of rules)
any_map f [] = refl
any_map f (rule ∷ rules) = ap (λ b. f (call_of rule) || b) (any_map f rules)

said_allowed : (p : Policy) (calls : List MachineCall) (q : Policy) → IsAllowing p calls q → (r : List ℕ)
    → said q r ≡ (if is_native p r then word_if (is_of calls r) else 0)
said_allowed p calls q is r =
    ap (λ (ms : List Arch). if list_any (has_call (word r 1) (word r 0)) ms
    then unwrap_or (option_map (λ (rule : Rule). rule.word) (find (λ rule. matches rule r) q.rules)) q.default_word else 0) is.machines
    ∙ ap (λ (w : ℕ). if is_native p r
    then unwrap_or (option_map (λ (rule : Rule). rule.word) (find (λ rule. matches rule r) q.rules)) w else 0) is.built.default_is
    ∙ ap (λ (w : ℕ). if is_native p r then w else 0)
    (found_word q.rules r (kept_all is.rules q.rules is.built.rules_kept is.are.allow_all)
    ∙ ap word_if (kept_any (is_for r) is.rules q.rules is.built.rules_kept
    ∙ any_map (is_call r) is.rules ∙ ap (λ (cs : List MachineCall). list_any (is_call r) cs) is.are.of_all))

-- ---- the laxest of two verdicts

not_stricter : (v w : ℕ) → rank w ≤ rank v → is_stricter v w ≡ false
not_stricter v w le = is_stricter-rank v w ∙ le-ltb (rank v) (rank w) le

irreflexive : (v : ℕ) → is_stricter v v ≡ false
irreflexive v = not_stricter v v (omega arith)

-- the order of signed numbers, by their bits
signed_order : (a b : ℕ) → a < 2 ^ 32 → b < 2 ^ 32
    → int_lt (cast_signed w32 a) (cast_signed w32 b) ≡ nat_lt ((a + 2 ^ 31) % 2 ^ 32) ((b + 2 ^ 31) % 2 ^ 32)
signed_order a b p q = grind (arith, ints, nat_tests)

kill_least : (v : ℕ) → is_stricter v kill_process ≡ false
kill_least v =
    let e : action v ≡ v / 2 ^ 16 % 2 ^ 16 * 2 ^ 16 = and_high v 16 16 in
    let f : action kill_process ≡ kill_process / 2 ^ 16 % 2 ^ 16 * 2 ^ 16 = and_high kill_process 16 16 in
    signed_order (action v) (action kill_process) (omega arith) (omega arith)
    ∙ le-ltb ((action v + 2 ^ 31) % 2 ^ 32) ((action kill_process + 2 ^ 31) % 2 ^ 32) (omega arith)

stricter_ranks : (v w : ℕ) → is_stricter v w ≡ true → rank v < rank w
stricter_ranks v w h = ltb-true (rank v) (rank w) (sym (is_stricter-rank v w) ∙ h)

asymmetric : (v w : ℕ) → is_stricter v w ≡ true → is_stricter w v ≡ false
asymmetric v w h = let less = stricter_ranks v w h in not_stricter w v (omega (arith, less))

-- the first counts unless it is stricter, and then the second
abbrev two : ℕ → ℕ → List ℕ
two x k = x ∷ k ∷ []

neither : (a b : Bool) → a ≡ false → b ≡ false → (not a && (not b && true)) ≡ true
neither a b p q = rw p (rw q refl)

only_second : (a b : Bool) → a ≡ false → b ≡ true → (not a && (not b && true)) ≡ false
only_second a b p q = rw p (rw q refl)

laxest_first : (x k : ℕ) → is_stricter x k ≡ false → laxest_of (two x k) ≡ x
laxest_first x k h =
    ap (λ o. unwrap_or o kill_process)
    (find_here (is_laxest (two x k)) x (k ∷ []) (neither (is_stricter x x) (is_stricter x k) (irreflexive x) h))

laxest_second : (x k : ℕ) → is_stricter x k ≡ true → laxest_of (two x k) ≡ k
laxest_second x k h =
    ap (λ o. unwrap_or o kill_process)
    (find_past (is_laxest (two x k)) x (k ∷ []) (only_second (is_stricter x x) (is_stricter x k) (irreflexive x) h)
    ∙ find_here (is_laxest (two x k)) k [] (neither (is_stricter k x) (is_stricter k k) (asymmetric x k h) (irreflexive k)))

-- ---- both together

said_both : (p q after : Policy) → SaysTogether Laxest (p ∷ q ∷ []) after → (r : List ℕ) → IsRecord r → (w : ℕ) → said q r ≡ w
    → said after r ≡ laxest_of (two (said p r) w)
said_both p q after says r is w e = says r is ∙ ap (λ v. laxest_of (two (said p r) v)) e

no_stricter : (x : ℕ) → is_stricter (laxest_of (two x allow)) allow ≡ false
no_stricter x =
    elim (cases_Bool (is_stricter x allow)) [
      | inl hit ↦ ap (λ w. is_stricter w allow) (laxest_second x allow hit) ∙ irreflexive allow
      | inr miss ↦ ap (λ w. is_stricter w allow) (laxest_first x allow miss) ∙ miss
    ]

pub allows_calls : (p : Policy) (calls : List MachineCall) (q after : Policy) → IsAllowing p calls q
    → SaysTogether Laxest (p ∷ q ∷ []) after → (r : List ℕ) → IsRecord r → is_native p r ≡ true → is_of calls r ≡ true
    → is_stricter (said after r) allow ≡ false
allows_calls p calls q after is says r record_is native of =
    let q_says : said q r ≡ allow =
    said_allowed p calls q is r ∙ ap (λ (b : Bool). if b then word_if (is_of calls r) else 0) native ∙ ap word_if of in
    ap (λ w. is_stricter w allow) (said_both p q after says r record_is allow q_says) ∙ no_stricter (said p r)

said_nothing : (p : Policy) (r : List ℕ) → is_native p r ≡ false → said p r ≡ 0
said_nothing p r h = rw h refl

pub keeps_others : (p : Policy) (calls : List MachineCall) (q after : Policy) → IsAllowing p calls q
    → SaysTogether Laxest (p ∷ q ∷ []) after → (r : List ℕ) → IsRecord r → is_of calls r ≡ false → said after r ≡ said p r
keeps_others p calls q after is says r record_is of =
    let q_is = said_allowed p calls q is r in
    elim (cases_Bool (is_native p r)) [
      | inl native ↦
          let q_says : said q r ≡ kill_process =
          q_is ∙ ap (λ (b : Bool). if b then word_if (is_of calls r) else 0) native ∙ ap word_if of in
          said_both p q after says r record_is kill_process q_says
          ∙ laxest_first (said p r) kill_process (kill_least (said p r))
      | inr foreign ↦
          let q_says : said q r ≡ said p r =
          q_is ∙ ap (λ (b : Bool). if b then word_if (is_of calls r) else 0) foreign ∙ sym (said_nothing p r foreign) in
          said_both p q after says r record_is (said p r) q_says ∙ laxest_first (said p r) (said p r) (irreflexive (said p r))
    ]

-- ---- the profile that was built

pub is_allowing : (p : Policy) (calls : List MachineCall) (rules : List Rule) (native : Arch) (machines : List Arch) (q : Policy)
    → native ≡ p.native → machines ≡ p.machines → IsProfile p → AreRulesOf calls rules → IsBuiltOf native machines kill_process rules q
    → IsAllowing p calls q
is_allowing p calls rules native machines q of_native of_machines is are b =
    let built : IsBuiltOf p.native p.machines kill_process rules q =
    subst (λ (n : Arch). IsBuiltOf n p.machines kill_process rules q) of_native
    (subst (λ (ms : List Arch). IsBuiltOf native ms kill_process rules q) of_machines b) in
    record {
      rules = rules;
      are = are;
      built = built;
      machines = one_order q.machines p.machines built.is_profile.machines_in_order is.machines_in_order built.machines_listed
          (λ a among. All-contains (Contains q.machines) p.machines a built.machines_all among);
    }

pub means_with : (native : Arch) (groups names : List (List ℕ)) (p : Policy) (machines : List Arch) (calls : List MachineCall) (q : Policy)
    (made : List ℕ) → machines ≡ p.machines → names ≡ calls_of_all groups → calls ≡ calls_on machines names → IsAllowing p calls q
    → MeansTogether native Laxest (p ∷ q ∷ []) made → MeansWith native groups p made
means_with native groups names p machines calls q made of_machines of_names of_calls is together =
    let same : calls ≡ calls_for p groups =
    of_calls ∙ ap (λ (ms : List Arch). calls_on ms names) of_machines ∙ ap (λ (ns : List (List ℕ)). calls_on p.machines ns) of_names in
    record {
      after = together.0;
      means = together.1;
      allows = λ r record_is native of.
          allows_calls p calls q together.0 is together.2 r record_is native (ap (λ (cs : List MachineCall). is_of cs r) same ∙ of);
      keeps = λ r record_is of. keeps_others p calls q together.0 is together.2 r record_is (ap (λ (cs : List MachineCall). is_of cs r) same ∙ of);
    }

-- ---- what is told

pub has_groups : (native : Arch) (groups : List (List ℕ)) (bundle : List ℕ) (p : Policy) → IsBundle native bundle p
    → (r : Result Grown AllocError) → IfOk r (TellsLines native groups p (report p.machines groups))
    → IfOk r (λ grown. TellsGrown native groups bundle grown.told (string_bytes grown.lines))
has_groups native groups bundle p means (Ok grown) tells = λ done.
    let has = tells done in record { before = p; of_made = means; grows = has.grows; reported = has.reported }
has_groups native groups bundle p means (Err e) tells = tt

pub none_grown : (native : Arch) (groups : List (List ℕ)) (bundle : List ℕ) (r : Result Grown AllocError)
    → IfOk r (λ grown. was_done grown.told.end ≡ false) → IfOk r (λ grown. TellsGrown native groups bundle grown.told (string_bytes grown.lines))
none_grown native groups bundle (Ok grown) e = λ done. let never : true ≡ false = sym done ∙ e in absurd (cc)
none_grown native groups bundle (Err e) h = tt
