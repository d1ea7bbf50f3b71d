-- The test of a program is true exactly where the kernel accepts it.
use Rattle.std.proofs.Common.{◌≡◌, ◌≢◌, ◌↔◌, ℕ, ◌+◌, ◌%◌, ◌==◌, ◌&&◌, ◌||◌, ◌<◌, ◌≤◌, ◌⊎◌, inl, inr, Bool, true, false, not, List}
use Rattle.std.proofs.Common.{[], ◌∷◌, Option, Some, None, length, drop, refl, sym, ◌∙◌, arith, subst, ap}
use Rattle.std.specs.Prelude.{if◌then◌else◌, zero, suc, nat_lt, nat_le, slice_get}
use Rattle.std.proofs.lemmas.Bool.{ltb-true, lt-ltb, leb-true, le-leb, cases_lt, eqb-false, eqb-true}
use Rattle.std.proofs.lemmas.Bool.Decides.{Decides-eqb}
use Rattle.bpf_insn.specs.declared.code.Operation.{Operation}
use Rattle.bpf_insn.specs.declared.code.Operation.TheVariants.{LoadWord, LoadScratch, LoadScratchX, Store, StoreX, ReturnK, ReturnA}
use Rattle.bpf_insn.specs.declared.code.Operation.TheVariants.{Jump, Branch, ShiftLeft, ShiftRight}
use Rattle.bpf_insn.specs.declared.instruction.Insn.{Insn}
use Rattle.bpf_insn.specs.Bytes.{insns_of, max_insns, view_fault}
use Rattle.bpf_insn.specs.Code.{operation_of}
use Rattle.bpf_insn.specs.Causes.{NamesNoWord}
use Rattle.kernel_check.specs.declared.fault.Cause.{Cause}
use Rattle.kernel_check.specs.declared.fault.Cause.TheVariants.{Code, Load, Shift, Target, End, Scratch}
use Rattle.kernel_check.specs.Accepted.{LeadsOut, CauseAt, HasCause, IsAccepted}
use Rattle.kernel_check.specs.Paths.{LeadsTo, WritesWord, Unwritten}
use Rattle.kernel_check.specs.Paths.Unwritten.{at_first, handed_on}
use Rattle.processes.specs.Attached.Attached.{Refused, Taken}
use Rattle.processes.specs.Attached.{attached_of, is_sound, is_sound_from, is_written, reads_on, reads_unwritten, is_accepted}

both : (a b : Bool) → (a && b) ≡ true → (a ≡ true) × (b ≡ true)
both true b h = (refl, h)
both false b h = (cc, cc)

less : (a b : ℕ) → nat_lt a b ≡ true → a < b
less a b h = ltb-true a b h

-- Where the test holds, nothing else than Scratch stands.

listed : (o : Option Operation) (n i : ℕ) (insn : Insn) → is_sound o n i insn ≡ true → o ≡ None → ⊥
listed None n i insn h e = cc
listed (Some op) n i insn h e = cc

names_word : (o : Option Operation) (n i : ℕ) (insn : Insn) → is_sound o n i insn ≡ true → NamesNoWord o insn.k → ⊥
names_word None n i insn h s = absurd s
names_word (Some LoadWord) n i insn h s =
    let first = both (nat_lt insn.k 64 && (insn.k % 4 == 0)) (nat_lt (i + 1) n) h in
    let second = both (nat_lt insn.k 64) (insn.k % 4 == 0) first.0 in
    let lt : insn.k < 64 = less insn.k 64 second.0 in
    elim s [ inl le ↦ omega arith | inr odd ↦ odd ((Decides-eqb (insn.k % 4) 0).0 second.1) ]
names_word (Some LoadScratch) n i insn h s = let lt : insn.k < 16 = less insn.k 16 (both (nat_lt insn.k 16) (nat_lt (i + 1) n) h).0 in
    let le : 16 ≤ insn.k = s in omega arith
names_word (Some LoadScratchX) n i insn h s = let lt : insn.k < 16 = less insn.k 16 (both (nat_lt insn.k 16) (nat_lt (i + 1) n) h).0 in
    let le : 16 ≤ insn.k = s in omega arith
names_word (Some Store) n i insn h s = let lt : insn.k < 16 = less insn.k 16 (both (nat_lt insn.k 16) (nat_lt (i + 1) n) h).0 in
    let le : 16 ≤ insn.k = s in omega arith
names_word (Some StoreX) n i insn h s = let lt : insn.k < 16 = less insn.k 16 (both (nat_lt insn.k 16) (nat_lt (i + 1) n) h).0 in
    let le : 16 ≤ insn.k = s in omega arith
names_word (Some op) n i insn h s = absurd s

stays_in : (o : Option Operation) (n i : ℕ) (insn : Insn) → is_sound o n i insn ≡ true → LeadsOut o n i insn → ⊥
stays_in None n i insn h s = absurd s
stays_in (Some Jump) n i insn h s = let lt : i + 1 + insn.k < n = less (i + 1 + insn.k) n h in
    let le : n ≤ i + 1 + insn.k = s in omega arith
stays_in (Some (Branch test c)) n i insn h s =
    let parts = both (nat_lt (i + 1 + insn.jt) n) (nat_lt (i + 1 + insn.jf) n) h in
    let taken : i + 1 + insn.jt < n = less (i + 1 + insn.jt) n parts.0 in
    let passed : i + 1 + insn.jf < n = less (i + 1 + insn.jf) n parts.1 in
    elim s [ inl le ↦ omega arith | inr le ↦ omega arith ]
stays_in (Some op) n i insn h s = absurd s

not_last : (o : Option Operation) (n i : ℕ) (insn : Insn) → is_sound o n i insn ≡ true
    → (o ≡ Some ReturnK → ⊥) → (o ≡ Some ReturnA → ⊥) → i + 1 < n
not_last None n i insn h a b = absurd (cc)
not_last (Some ReturnK) n i insn h a b = absurd (a refl)
not_last (Some ReturnA) n i insn h a b = absurd (b refl)
not_last (Some LoadWord) n i insn h a b =
    let first = both (nat_lt insn.k 64 && (insn.k % 4 == 0)) (nat_lt (i + 1) n) h in less (i + 1) n first.1
not_last (Some LoadScratch) n i insn h a b = less (i + 1) n (both (nat_lt insn.k 16) (nat_lt (i + 1) n) h).1
not_last (Some LoadScratchX) n i insn h a b = less (i + 1) n (both (nat_lt insn.k 16) (nat_lt (i + 1) n) h).1
not_last (Some Store) n i insn h a b = less (i + 1) n (both (nat_lt insn.k 16) (nat_lt (i + 1) n) h).1
not_last (Some StoreX) n i insn h a b = less (i + 1) n (both (nat_lt insn.k 16) (nat_lt (i + 1) n) h).1
not_last (Some ShiftLeft) n i insn h a b = less (i + 1) n (both (nat_lt insn.k 32) (nat_lt (i + 1) n) h).1
not_last (Some ShiftRight) n i insn h a b = less (i + 1) n (both (nat_lt insn.k 32) (nat_lt (i + 1) n) h).1
not_last (Some Jump) n i insn h a b = let lt : i + 1 + insn.k < n = less (i + 1 + insn.k) n h in omega arith
not_last (Some (Branch test c)) n i insn h a b =
    let parts = both (nat_lt (i + 1 + insn.jt) n) (nat_lt (i + 1 + insn.jf) n) h in
    let lt : i + 1 + insn.jt < n = less (i + 1 + insn.jt) n parts.0 in omega arith
not_last (Some op) n i insn h a b = less (i + 1) n h

shifts : (n i : ℕ) (insn : Insn) (o : Operation) → ((o ≡ ShiftLeft) ⊎ (o ≡ ShiftRight))
    → is_sound (Some o) n i insn ≡ true → 32 ≤ insn.k → ⊥
shifts n i insn o (inl e) h le =
    let g : is_sound (Some ShiftLeft) n i insn ≡ true = subst (λ (x : Operation). is_sound (Some x) n i insn ≡ true) e h in
    let lt : insn.k < 32 = less insn.k 32 (both (nat_lt insn.k 32) (nat_lt (i + 1) n) g).0 in omega arith
shifts n i insn o (inr e) h le =
    let g : is_sound (Some ShiftRight) n i insn ≡ true = subst (λ (x : Operation). is_sound (Some x) n i insn ≡ true) e h in
    let lt : insn.k < 32 = less insn.k 32 (both (nat_lt insn.k 32) (nat_lt (i + 1) n) g).0 in omega arith

sound : (p : List Insn) (i : ℕ) (insn : Insn) → is_sound (operation_of insn.code) (length p) i insn ≡ true
    → (k : Cause) → k ≢ Scratch → CauseAt k p i insn → ⊥
sound p i insn h Code ne s = listed (operation_of insn.code) (length p) i insn h s
sound p i insn h Load ne s = names_word (operation_of insn.code) (length p) i insn h s
sound p i insn h Shift ne s =
    elim s.0 [
      | inl e ↦ let g : is_sound (Some ShiftLeft) (length p) i insn
          ≡ true = subst (λ (x : Option Operation). is_sound x (length p) i insn ≡ true) e h in
          shifts (length p) i insn ShiftLeft (inl refl) g s.1
      | inr e ↦ let g : is_sound (Some ShiftRight) (length p) i insn
          ≡ true = subst (λ (x : Option Operation). is_sound x (length p) i insn ≡ true) e h in
          shifts (length p) i insn ShiftRight (inr refl) g s.1
    ]
sound p i insn h Target ne s = stays_in (operation_of insn.code) (length p) i insn h s
sound p i insn h End ne s =
    let lt : i + 1 < length p = not_last (operation_of insn.code) (length p) i insn h (λ e. s.1 (inl e)) (λ e. s.1 (inr e)) in
    let last : i + 1 ≡ length p = s.0 in omega arith
sound p i insn h Scratch ne s = ne refl

sound_at : (n : ℕ) (p : List Insn) (i j : ℕ) (insn : Insn) → is_sound_from n i p ≡ true → slice_get p j ≡ Some insn
    → is_sound (operation_of insn.code) n (i + j) insn ≡ true
sound_at n [] i j insn h e = absurd (cc)
sound_at n (x ∷ p) i zero insn h e =
    let same : x ≡ insn = cc in
    let here = (both (is_sound (operation_of x.code) n i x) (is_sound_from n (i + 1) p) h).0 in
    let at : i ≡ i + 0 = omega arith in
    subst (λ (y : Insn). is_sound (operation_of y.code) n (i + 0) y
    ≡ true) same (subst (λ m. is_sound (operation_of x.code) n m x ≡ true) at here)
sound_at n (x ∷ p) i (suc j) insn h e =
    let rest = (both (is_sound (operation_of x.code) n i x) (is_sound_from n (i + 1) p) h).1 in
    let at : i + 1 + j ≡ i + suc j = omega arith in
    subst (λ m. is_sound (operation_of insn.code) n m insn ≡ true) at (sound_at n p (i + 1) j insn rest e)

-- Where no path reads an unwritten word, Scratch does not stand.

neither : (a b : Bool) → (a || b) ≡ false → (a ≡ false) × (b ≡ false)
neither true b h = absurd (cc)
neither false b h = (refl, h)

still_unwritten : (k w : ℕ) (written : List ℕ) → (k ≡ w → ⊥) → is_written w written ≡ false → is_written w (k ∷ written) ≡ false
still_unwritten k w written ne h = by (k == w) refl
  where
    by : (b : Bool) → (k == w) ≡ b → (b || is_written w written) ≡ false
    by true e = absurd (ne (eqb-true k w e))
    by false e = h

-- the search at an instruction goes on with the instructions after it
search_at : (p : List Insn) (i : ℕ) (insn : Insn) (written : List ℕ) → slice_get p i ≡ Some insn
    → reads_unwritten p i written ≡ reads_on (operation_of insn.code) insn written (λ skip all. reads_unwritten (drop (suc i) p) skip all)
search_at [] i insn written e = absurd (cc)
search_at (x ∷ p) zero insn written e =
    let same : x ≡ insn = cc in
    subst (λ (y : Insn). reads_on (operation_of x.code) x written (λ skip all. reads_unwritten p skip all)
    ≡ reads_on (operation_of y.code) y written (λ skip all. reads_unwritten p skip all)) same refl
search_at (x ∷ p) (suc i) insn written e = search_at p i insn written e

search_past : (p : List Insn) (i skip : ℕ) (written : List ℕ)
    → reads_unwritten (drop (suc i) p) skip written ≡ reads_unwritten p (suc (i + skip)) written
search_past [] i skip written = refl
search_past (x ∷ p) zero skip written = let e : skip ≡ 0 + skip = omega arith in ap (λ m. reads_unwritten p m written) e
search_past (x ∷ p) (suc i) skip written = let e : suc (i + skip) ≡ suc i + skip = omega arith in
    search_past p i skip written ∙ ap (λ m. reads_unwritten p m written) e

-- what is known of the search where an instruction leads to
abbrev pub Quiet : List Insn → ℕ → ℕ → Type 0
Quiet p w i = (written : List ℕ) × (is_written w written ≡ false) × (reads_unwritten p i written ≡ false)

to_place : (p : List Insn) (i skip next w : ℕ) (written : List ℕ) → next ≡ i + 1 + skip → is_written w written ≡ false
    → reads_unwritten (drop (suc i) p) skip written ≡ false → Quiet p w next
to_place p i skip next w written at unwritten quiet =
    let e : next ≡ suc (i + skip) = omega arith in
    (written, unwritten, ap (λ m. reads_unwritten p m written) e ∙ (sym (search_past p i skip written) ∙ quiet))

next_of : (i next : ℕ) → next ≡ i + 1 → next ≡ i + 1 + 0
next_of i next h = omega arith

led_on : (o : Option Operation) (p : List Insn) (i next w : ℕ) (insn : Insn) (written : List ℕ) → operation_of insn.code ≡ o
    → is_written w written ≡ false → (WritesWord insn w → ⊥) → LeadsTo o i insn next
    → reads_on o insn written (λ skip all. reads_unwritten (drop (suc i) p) skip all) ≡ false → Quiet p w next
led_on None p i next w insn written e un keeps to h = to_place p i 0 next w written (next_of i next to) un h
led_on (Some LoadScratch) p i next w insn written e un keeps to h =
    to_place p i 0 next w written (next_of i next to) un (neither (not (is_written insn.k written)) (reads_unwritten (drop (suc i) p) 0 written) h).1
led_on (Some LoadScratchX) p i next w insn written e un keeps to h =
    to_place p i 0 next w written (next_of i next to) un (neither (not (is_written insn.k written)) (reads_unwritten (drop (suc i) p) 0 written) h).1
led_on (Some Store) p i next w insn written e un keeps to h =
    to_place p i 0 next w (insn.k ∷ written) (next_of i next to) (still_unwritten insn.k w written (λ same. keeps (inl e, same)) un) h
led_on (Some StoreX) p i next w insn written e un keeps to h =
    to_place p i 0 next w (insn.k ∷ written) (next_of i next to) (still_unwritten insn.k w written (λ same. keeps (inr e, same)) un) h
led_on (Some ReturnK) p i next w insn written e un keeps to h = absurd to
led_on (Some ReturnA) p i next w insn written e un keeps to h = absurd to
led_on (Some Jump) p i next w insn written e un keeps to h = to_place p i insn.k next w written to un h
led_on (Some (Branch test c)) p i next w insn written e un keeps to h =
    let parts = neither (reads_unwritten (drop (suc i) p) insn.jt written) (reads_unwritten (drop (suc i) p) insn.jf written) h in
    elim to [ inl at ↦ to_place p i insn.jt next w written at un parts.0 | inr at ↦ to_place p i insn.jf next w written at un parts.1 ]
led_on (Some op) p i next w insn written e un keeps to h = to_place p i 0 next w written (next_of i next to) un h

quiet_there : (p : List Insn) (w i : ℕ) → reads_unwritten p 0 [] ≡ false → Unwritten p w i → Quiet p w i
quiet_there p w i h at_first = ([], refl, h)
quiet_there p w _ h (handed_on i next insn before at hands) =
    let q = quiet_there p w i h before in
    led_on (operation_of insn.code) p i next w insn q.0 refl q.1 hands.0 hands.1 (sym (search_at p i insn q.0 at) ∙ q.2)

no_scratch : (p : List Insn) (i : ℕ) → reads_unwritten p 0 [] ≡ false → HasCause p i Scratch → ⊥
no_scratch p i h s =
    let insn : Insn = s.0 in
    let q = quiet_there p insn.k i h s.2.1 in
    reads_here (operation_of insn.code) insn q.0 (λ skip all. reads_unwritten (drop (suc i) p) skip all) s.2.0 q.1 (sym (search_at p i insn q.0 s.1) ∙ q.2)
  where
    reads_by : (b c : Bool) → b ≡ false → (not b || c) ≡ false → ⊥
    reads_by true c e g = cc
    reads_by false c e g = cc

    reads_here : (o : Option Operation) (insn : Insn) (written : List ℕ) (rest : ℕ → List ℕ → Bool)
        → ((o ≡ Some LoadScratch) ⊎ (o ≡ Some LoadScratchX))
        → is_written insn.k written ≡ false → reads_on o insn written rest ≡ false → ⊥
    reads_here o insn written rest (inl e) un g =
        let f : reads_on (Some LoadScratch) insn written rest
        ≡ false = subst (λ (x : Option Operation). reads_on x insn written rest ≡ false) e g in
        reads_by (is_written insn.k written) (rest 0 written) un f
    reads_here o insn written rest (inr e) un g =
        let f : reads_on (Some LoadScratchX) insn written rest
        ≡ false = subst (λ (x : Option Operation). reads_on x insn written rest ≡ false) e g in
        reads_by (is_written insn.k written) (rest 0 written) un f

not_true : (b : Bool) → not b ≡ true → b ≡ false
not_true true h = cc
not_true false h = refl

any_cause : (p : List Insn) → is_sound_from (length p) 0 p ≡ true → reads_unwritten p 0 [] ≡ false
    → (i : ℕ) (k : Cause) → HasCause p i k → ⊥
any_cause p h quiet i Scratch s = no_scratch p i quiet s
any_cause p h quiet i k s =
    let zero_more : 0 + i ≡ i = omega arith in
    sound p i s.0 (subst (λ m. is_sound (operation_of s.0.code) (length p) m s.0
    ≡ true) zero_more (sound_at (length p) p 0 i s.0 h s.1)) k (λ e. cc) s.2

test_accepts : (p : List Insn) → is_accepted p ≡ true → IsAccepted p
unfolding is_accepted
test_accepts p h =
    let outer = both (nat_le 1 (length p) && nat_le (length p) max_insns) (is_sound_from (length p) 0 p && not (reads_unwritten p 0 [])) h in
    let sizes = both (nat_le 1 (length p)) (nat_le (length p) max_insns) outer.0 in
    let checks = both (is_sound_from (length p) 0 p) (not (reads_unwritten p 0 [])) outer.1 in
    record {
      some = leb-true 1 (length p) sizes.0;
      limit = leb-true (length p) max_insns sizes.1;
      no_cause = any_cause p checks.0 (not_true (reads_unwritten p 0 []) checks.1);
    }

-- Where nothing stands, the test holds.

is_less : (a b : ℕ) → (b ≤ a → ⊥) → nat_lt a b ≡ true
is_less a b f = elim (cases_lt a b) [ inl lt ↦ lt-ltb a b lt | inr le ↦ absurd (f le) ]

and_true : (a b : Bool) → a ≡ true → b ≡ true → (a && b) ≡ true
and_true a b p q = rw (p, q) refl

abbrev pub Nothing : List Insn → ℕ → Insn → Type 0
Nothing p i insn = (k : Cause) → CauseAt k p i insn → ⊥

goes_on : (o : Option Operation) (p : List Insn) (i : ℕ) (insn : Insn) → operation_of insn.code ≡ o
    → (o ≡ Some ReturnK → ⊥) → (o ≡ Some ReturnA → ⊥)
    → Nothing p i insn → i < length p → nat_lt (i + 1) (length p) ≡ true
goes_on o p i insn e a b none lt =
    is_less (i + 1) (length p) (λ le. none End (omega arith, λ r. elim r [ inl q ↦ a (sym e ∙ q) | inr q ↦ b (sym e ∙ q) ]))

leads_in : (o : Option Operation) (p : List Insn) (i : ℕ) (insn : Insn) → operation_of insn.code ≡ o
    → Nothing p i insn → LeadsOut o (length p) i insn → ⊥
leads_in o p i insn e none s = none Target (subst (λ (x : Option Operation). LeadsOut x (length p) i insn) (sym e) s)

named : (o : Option Operation) (p : List Insn) (i : ℕ) (insn : Insn) → operation_of insn.code ≡ o
    → Nothing p i insn → NamesNoWord o insn.k → ⊥
named o p i insn e none s = none Load (subst (λ (x : Option Operation). NamesNoWord x insn.k) (sym e) s)

complete : (o : Option Operation) (p : List Insn) (i : ℕ) (insn : Insn) → operation_of insn.code ≡ o
    → Nothing p i insn → i < length p → is_sound o (length p) i insn ≡ true
complete None p i insn e none lt = absurd (none Code e)
complete (Some ReturnK) p i insn e none lt = refl
complete (Some ReturnA) p i insn e none lt = refl
complete (Some LoadWord) p i insn e none lt =
    and_true (nat_lt insn.k 64 && (insn.k % 4 == 0)) (nat_lt (i + 1) (length p))
    (and_true (nat_lt insn.k 64) (insn.k % 4 == 0) (is_less insn.k 64 (λ le. named (Some LoadWord) p i insn e none (inl le))) (even (insn.k % 4 == 0) refl))
    (goes_on (Some LoadWord) p i insn e (λ q. cc) (λ q. cc) none lt)
  where
    even : (b : Bool) → (insn.k % 4 == 0) ≡ b → b ≡ true
    even true h = refl
    even false h = absurd (named (Some LoadWord) p i insn e none (inr (eqb-false (insn.k % 4) 0 h)))
complete (Some LoadScratch) p i insn e none lt =
    and_true (nat_lt insn.k 16) (nat_lt (i + 1) (length p)) (is_less insn.k 16 (λ le. named (Some LoadScratch) p i insn e none le)) (goes_on (Some LoadScratch) p i insn e (λ q. cc) (λ q. cc) none lt)
complete (Some LoadScratchX) p i insn e none lt =
    and_true (nat_lt insn.k 16) (nat_lt (i + 1) (length p)) (is_less insn.k 16 (λ le. named (Some LoadScratchX) p i insn e none le)) (goes_on (Some LoadScratchX) p i insn e (λ q. cc) (λ q. cc) none lt)
complete (Some Store) p i insn e none lt =
    and_true (nat_lt insn.k 16) (nat_lt (i + 1) (length p)) (is_less insn.k 16 (λ le. named (Some Store) p i insn e none le)) (goes_on (Some Store) p i insn e (λ q. cc) (λ q. cc) none lt)
complete (Some StoreX) p i insn e none lt =
    and_true (nat_lt insn.k 16) (nat_lt (i + 1) (length p)) (is_less insn.k 16 (λ le. named (Some StoreX) p i insn e none le)) (goes_on (Some StoreX) p i insn e (λ q. cc) (λ q. cc) none lt)
complete (Some ShiftLeft) p i insn e none lt =
    and_true (nat_lt insn.k 32) (nat_lt (i + 1) (length p)) (is_less insn.k 32 (λ le. none Shift (
      inl e,
      le,
    ))) (goes_on (Some ShiftLeft) p i insn e (λ q. cc) (λ q. cc) none lt)
complete (Some ShiftRight) p i insn e none lt =
    and_true (nat_lt insn.k 32) (nat_lt (i + 1) (length p)) (is_less insn.k 32 (λ le. none Shift (
      inr e,
      le,
    ))) (goes_on (Some ShiftRight) p i insn e (λ q. cc) (λ q. cc) none lt)
complete (Some Jump) p i insn e none lt = is_less (i + 1 + insn.k) (length p) (λ le. leads_in (Some Jump) p i insn e none le)
complete (Some (Branch test c)) p i insn e none lt =
    and_true (nat_lt (i + 1 + insn.jt) (length p)) (nat_lt (i + 1 + insn.jf) (length p))
    (is_less (i + 1 + insn.jt) (length p) (λ le. leads_in (Some (Branch test c)) p i insn e none (inl le)))
    (is_less (i + 1 + insn.jf) (length p) (λ le. leads_in (Some (Branch test c)) p i insn e none (inr le)))
complete (Some op) p i insn e none lt = goes_on (Some op) p i insn e (λ q. cc) (λ q. cc) none lt

complete_from : (whole : List Insn) (p : List Insn) (i : ℕ) → i + length p ≡ length whole
    → ((j : ℕ) (insn : Insn) → slice_get p j ≡ Some insn → Nothing whole (i + j) insn) → is_sound_from (length whole) i p ≡ true
complete_from whole [] i size none = refl
complete_from whole (x ∷ p) i size none =
    let at : i + 0 ≡ i = omega arith in
    and_true (is_sound (operation_of x.code) (length whole) i x) (is_sound_from (length whole) (i + 1) p)
    (complete (operation_of x.code) whole i x refl (subst (λ m. Nothing whole m x) at (none 0 x refl)) (omega arith))
    (complete_from whole p (i + 1) (omega arith) (λ j insn found. let more : i + suc j ≡ i + 1 + j = omega arith in
    subst (λ m. Nothing whole m insn) more (none (suc j) insn found)))

-- Where a path reads an unwritten word, Scratch stands.

either : (a b : Bool) → (a || b) ≡ true → (a ≡ true) ⊎ (b ≡ true)
either true b h = inl refl
either false b h = inr h

abbrev pub HasScratch : List Insn → Type 0
HasScratch p = (i : ℕ) × HasCause p i Scratch

-- each word that is not among these is unwritten there
abbrev pub AllElse : List Insn → ℕ → List ℕ → Type 0
AllElse p i written = (w : ℕ) → is_written w written ≡ false → Unwritten p w i

hand : (p : List Insn) (i next : ℕ) (insn : Insn) (written : List ℕ) → slice_get p i ≡ Some insn → ((w : ℕ) → WritesWord insn w → ⊥)
    → LeadsTo (operation_of insn.code) i insn next → AllElse p i written → AllElse p next written
hand p i next insn written at keeps to path = λ w un. handed_on i next insn (path w un) at (keeps w, to)

hand_written : (p : List Insn) (i next : ℕ) (insn : Insn) (written : List ℕ) → slice_get p i ≡ Some insn
    → LeadsTo (operation_of insn.code) i insn next → AllElse p i written → AllElse p next (insn.k ∷ written)
hand_written p i next insn written at to path = λ w un.
    let parts = neither (insn.k == w) (is_written w written) un in
    handed_on i next insn (path w parts.1) at ((λ writes. eqb-false insn.k w parts.0 writes.1), to)

abbrev pub Found : List Insn → ℕ → List Insn → Type 0
Found p i rest = (skip : ℕ) (written : List ℕ) → AllElse p (i + 1 + skip) written → reads_unwritten rest skip written ≡ true → HasScratch p

writes_none : (insn : Insn) (o : Option Operation) → operation_of insn.code ≡ o → (o ≡ Some Store → ⊥)
    → (o ≡ Some StoreX → ⊥) → (w : ℕ) → WritesWord insn w → ⊥
writes_none insn o e a b w writes = elim writes.0 [ inl q ↦ a (sym e ∙ q) | inr q ↦ b (sym e ∙ q) ]

leads : (insn : Insn) (o : Option Operation) (i next : ℕ) → operation_of insn.code ≡ o
    → LeadsTo o i insn next → LeadsTo (operation_of insn.code) i insn next
leads insn o i next e to = subst (λ (x : Option Operation). LeadsTo x i insn next) (sym e) to

found_at : (o : Option Operation) (p rest : List Insn) (i : ℕ) (insn : Insn) (written : List ℕ)
    → operation_of insn.code ≡ o → slice_get p i ≡ Some insn
    → AllElse p i written → Found p i rest → reads_on o insn written (λ skip all. reads_unwritten rest skip all) ≡ true → HasScratch p
found_at (Some LoadScratch) p rest i insn written e at path more h = by (is_written insn.k written) refl h
  where
    by : (b : Bool) → is_written insn.k written ≡ b → (not b || reads_unwritten rest 0 written) ≡ true → HasScratch p
    by true un g = more 0 written (hand p i (i + 1 + 0) insn written at (writes_none insn (Some LoadScratch) e (λ q. cc) (λ q. cc)) (leads insn (Some LoadScratch) i (i + 1 + 0) e (omega arith)) path) g
    by false un g = (i, (insn, at, (inl e, path insn.k un)))
found_at (Some LoadScratchX) p rest i insn written e at path more h = by (is_written insn.k written) refl h
  where
    by : (b : Bool) → is_written insn.k written ≡ b → (not b || reads_unwritten rest 0 written) ≡ true → HasScratch p
    by true un g = more 0 written (hand p i (i + 1 + 0) insn written at (writes_none insn (Some LoadScratchX) e (λ q. cc) (λ q. cc)) (leads insn (Some LoadScratchX) i (i + 1 + 0) e (omega arith)) path) g
    by false un g = (i, (insn, at, (inr e, path insn.k un)))
found_at (Some Store) p rest i insn written e at path more h =
    more 0 (insn.k ∷ written) (hand_written p i (i + 1 + 0) insn written at (leads insn (Some Store) i (i + 1 + 0) e (omega arith)) path) h
found_at (Some StoreX) p rest i insn written e at path more h =
    more 0 (insn.k ∷ written) (hand_written p i (i + 1 + 0) insn written at (leads insn (Some StoreX) i (i + 1 + 0) e (omega arith)) path) h
found_at (Some ReturnK) p rest i insn written e at path more h = absurd (cc)
found_at (Some ReturnA) p rest i insn written e at path more h = absurd (cc)
found_at (Some Jump) p rest i insn written e at path more h =
    more insn.k written (hand p i (i + 1 + insn.k) insn written at (writes_none insn (Some Jump) e (λ q. cc) (λ q. cc)) (leads insn (Some Jump) i (i + 1 + insn.k) e refl) path) h
found_at (Some (Branch test c)) p rest i insn written e at path more h =
    let none : (w : ℕ) → WritesWord insn w → ⊥ = writes_none insn (Some (Branch test c)) e (λ q. cc) (λ q. cc) in
    elim (either (reads_unwritten rest insn.jt written) (reads_unwritten rest insn.jf written) h) [
      | inl g ↦ more insn.jt written (hand p i (i + 1 + insn.jt) insn written at none (leads insn (Some (Branch test c)) i (i + 1 + insn.jt) e (inl refl)) path) g
      | inr g ↦ more insn.jf written (hand p i (i + 1 + insn.jf) insn written at none (leads insn (Some (Branch test c)) i (i + 1 + insn.jf) e (inr refl)) path) g
    ]
found_at None p rest i insn written e at path more h =
    more 0 written (hand p i (i + 1 + 0) insn written at (writes_none insn None e (λ q. cc) (λ q. cc)) (leads insn None i (i + 1 + 0) e (omega arith)) path) h
found_at (Some op) p rest i insn written e at path more h =
    more 0 written (hand p i (i + 1 + 0) insn written at (writes_none insn (Some op) e (λ q. cc) (λ q. cc)) (leads insn (Some op) i (i + 1 + 0) e (omega arith)) path) h

found_from : (p rest : List Insn) (n pc : ℕ) (written : List ℕ)
    → ((j : ℕ) → slice_get rest j ≡ slice_get p (n + j)) → AllElse p (n + pc) written
    → reads_unwritten rest pc written ≡ true → HasScratch p
found_from p [] n pc written same path h = absurd (cc)
found_from p (x ∷ rest) n (suc pc) written same path h =
    let at : n + suc pc ≡ n + 1 + pc = omega arith in
    found_from p rest (n + 1) pc written (shifted p x rest n same) (subst (λ m. AllElse p m written) at path) h
  where
    shifted : (p : List Insn) (x : Insn) (rest : List Insn) (n : ℕ) → ((j : ℕ) → slice_get (x ∷ rest) j ≡ slice_get p (n + j))
        → (j : ℕ) → slice_get rest j ≡ slice_get p (n + 1 + j)
    shifted p x rest n same j = let e : n + suc j ≡ n + 1 + j = omega arith in same (suc j) ∙ ap (λ m. slice_get p m) e
found_from p (x ∷ rest) n zero written same path h =
    let at : n + 0 ≡ n = omega arith in
    let here : slice_get p n ≡ Some x = ap (λ m. slice_get p m) (sym at) ∙ sym (same 0) in
    found_at (operation_of x.code) p rest n x written refl here (subst (λ m. AllElse p m written) at path)
    (λ skip all path_on g. found_from p rest (n + 1) skip all (λ j. let e : n + suc j ≡ n + 1 + j = omega arith in
    same (suc j) ∙ ap (λ m. slice_get p m) e) path_on g) h

quiet_by : (p : List Insn) (b : Bool) → reads_unwritten p 0 [] ≡ b → ((i : ℕ) → HasCause p i Scratch → ⊥) → not b ≡ true
quiet_by p true h none =
    let s = found_from p p 0 0 [] (λ j. let e : j ≡ 0 + j = omega arith in
    ap (λ m. slice_get p m) e) (λ w un. let e : 0 ≡ 0 + 0 = omega arith in subst (λ m. Unwritten p w m) e at_first) h in
    absurd (none s.0 s.1)
quiet_by p false h none = refl

accepted_tests : (p : List Insn) → IsAccepted p → is_accepted p ≡ true
unfolding is_accepted
accepted_tests p a =
    and_true (nat_le 1 (length p) && nat_le (length p) max_insns) (is_sound_from (length p) 0 p && not (reads_unwritten p 0 []))
    (and_true (nat_le 1 (length p)) (nat_le (length p) max_insns) (le-leb 1 (length p) a.some) (le-leb (length p) max_insns a.limit))
    (and_true (is_sound_from (length p) 0 p) (not (reads_unwritten p 0 []))
    (complete_from p p 0 (omega arith) (λ j insn found. let at : j ≡ 0 + j = omega arith in
    subst (λ m. Nothing p m insn) at (λ k s. a.no_cause j k (insn, found, s))))
    (quiet_by p (reads_unwritten p 0 []) refl (λ i. a.no_cause i Scratch)))

pub accepts_exactly : (p : List Insn) → (is_accepted p ≡ true) ↔ IsAccepted p
accepts_exactly p = (test_accepts p, accepted_tests p)

attached_by : (bytes : List ℕ) (b : Bool) → view_fault bytes ≡ None → is_accepted (insns_of bytes) ≡ b
    → attached_of (Some bytes) ≡ (if b then Taken (insns_of bytes) else Refused)
attached_by bytes b fault e = rw (fault, e) refl

pub attached_taken : (bytes : List ℕ) → view_fault bytes ≡ None → IsAccepted (insns_of bytes)
    → attached_of (Some bytes) ≡ Taken (insns_of bytes)
attached_taken bytes fault a = attached_by bytes true fault (accepted_tests (insns_of bytes) a)

pub attached_refused : (bytes : List ℕ) → view_fault bytes ≡ None → (IsAccepted (insns_of bytes) → ⊥) → attached_of (Some bytes) ≡ Refused
attached_refused bytes fault no_way = by (is_accepted (insns_of bytes)) refl
  where
    by : (b : Bool) → is_accepted (insns_of bytes) ≡ b → attached_of (Some bytes) ≡ Refused
    by true e = absurd (no_way (test_accepts (insns_of bytes) e))
    by false e = attached_by bytes false fault e
