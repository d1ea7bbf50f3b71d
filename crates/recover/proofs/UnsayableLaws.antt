-- A profile says the same of two records that it compares alike. So a filter that tells them apart is no bundle's.
use std.Path.{fun_ext}
use Rattle.std.proofs.Common.{◌≡◌, ℕ, zero, suc, ◌==◌, ◌&&◌, ◌||◌, inl, inr, Bool, true, false, List, [], ◌∷◌, Option, None, Some, cond, filter, map, get_or, refl, sym, ◌∙◌, ap}
use Rattle.std.specs.Prelude.{◌≢◌, if◌then◌else◌, unwrap_or}
use Rattle.std.specs.List.{find, list_all, list_any}
use Rattle.std.specs.Option.{option_map}
use Rattle.std.proofs.lemmas.Bool.{cases_Bool}
use Rattle.std.proofs.lemmas.Option.{none-some}
use Rattle.call_record.specs.declared.layout.Record.{Record}
use Rattle.call_record.specs.Record.{words}
use Rattle.call_record.specs.Words.{word}
use Rattle.call_record.proofs.RecordLemmas.{argument-words_from}
use Rattle.machines.specs.Arch.{family_of, machines_of, same_arch, token_of}
use Rattle.machines.specs.declared.arch.Arch.{Arch}
use Rattle.machines.specs.declared.arch.Family.{Family}
use Rattle.machines.specs.Numbers.{has_call}
use Rattle.machines.specs.Width.{compared, is_narrow}
use Rattle.bpf_insn.specs.Bytes.{insns_of}
use Rattle.profile.specs.Policy.{Policy}
use Rattle.profile.specs.Rule.{argument_of}
use Rattle.profile.specs.Said.{matches, meets, said}
use Rattle.profile.proofs.SaidLaws.{each_record_is_said_one_verdict}
use Rattle.wording.specs.Phrases.{machine_of, machine_with, or_else, owner_of}
use Rattle.recover.specs.declared.unsaid.Shown.{Shown}
use Rattle.recover.specs.Recovered.{IsRecovered, IsUnsayable}
use Rattle.recover.specs.Unsaid.{AreAlike, AreUnlike, IsAnswer}

-- ---- what is said, by what is compared of a record

abbrev said_of : Policy → ℕ → ℕ → (ℕ → ℕ) → ℕ
said_of p token nr args =
    if list_any (has_call token nr) p.machines
    then unwrap_or (option_map (λ rule. rule.word)
    (find (λ rule. token == token_of rule.arch && nr == rule.nr && list_all (λ c. meets c (args c.index)) rule.conds.items) p.rules)) p.default_word
    else 0

said_alike : (p : Policy) (r s : List ℕ) → word r 1 ≡ word s 1 → word r 0 ≡ word s 0 → ((j : ℕ) → argument_of r j ≡ argument_of s j)
    → said p r ≡ said p s
said_alike p r s machine number args =
    ap (λ token. said_of p token (word r 0) (argument_of r)) machine
    ∙ ap (λ nr. said_of p (word s 1) nr (argument_of r)) number
    ∙ ap (said_of p (word s 1) (word s 0)) (fun_ext args)

-- ---- arguments that are compared alike

got : (f : ℕ → ℕ) (xs : List ℕ) (j d : ℕ) → get_or (map f xs) j (f d) ≡ f (get_or xs j d)
got f [] j d = refl
got f (x ∷ xs) zero d = refl
got f (x ∷ xs) (suc j) d = got f xs j d

same_at : (f : ℕ → ℕ) (xs ys : List ℕ) (j d : ℕ) → map f xs ≡ map f ys → f (get_or xs j d) ≡ f (get_or ys j d)
same_at f xs ys j d h = sym (got f xs j d) ∙ ap (λ l. get_or l j (f d)) h ∙ got f ys j d

argument_is : (call : Record) (j : ℕ) → argument_of (words call) j ≡ compared (is_narrow call.arch) (get_or call.args j 0)
argument_is call j = ap (compared (is_narrow call.arch)) (argument-words_from call.nr call.arch call.ip call.args j)

alike_whole : (one other : Record) → AreAlike false one other → (j : ℕ) → argument_of (words one) j ≡ argument_of (words other) j
alike_whole one other h j =
    argument_is one j
    ∙ ap (compared (is_narrow one.arch)) (same_at (compared false) one.args other.args j 0 h.arguments)
    ∙ ap (λ token. compared (is_narrow token) (get_or other.args j 0)) h.machine
    ∙ sym (argument_is other j)

alike_below : (one other : Record) → AreAlike true one other → is_narrow one.arch ≡ true → (j : ℕ)
    → argument_of (words one) j ≡ argument_of (words other) j
alike_below one other h narrow j =
    argument_is one j
    ∙ ap (λ b. compared b (get_or one.args j 0)) narrow
    ∙ same_at (compared true) one.args other.args j 0 h.arguments
    ∙ ap (λ b. compared b (get_or other.args j 0)) (sym narrow ∙ ap is_narrow h.machine)
    ∙ sym (argument_is other j)

-- ---- what a bundle says of a call that is shown

said_is : (native : Arch) (bundle filter : List ℕ) (one : Shown) (rec : IsRecovered native bundle filter) → IsAnswer (insns_of filter) one
    → one.given ≡ said rec.policy (words one.call)
said_is native bundle filter one rec answer =
    let says = (rec.right (words one.call) answer.is_record one.given).0 answer.given in
    (each_record_is_said_one_verdict rec.policy (words one.call) one.given rec.means.2.calls.clear answer.is_record).0 says

two_apart : (native : Arch) (filter : List ℕ) (one other : Shown) → AreUnlike (insns_of filter) one other → one.call.arch ≡ other.call.arch
    → one.call.nr ≡ other.call.nr → ((j : ℕ) → argument_of (words one.call) j ≡ argument_of (words other.call) j) → IsUnsayable native filter
two_apart native filter one other unlike machine number args = λ bundle rec.
    unlike.unlike
    (said_is native bundle filter one rec unlike.first
    ∙ said_alike rec.policy (words one.call) (words other.call) machine number args
    ∙ sym (said_is native bundle filter other rec unlike.second))

pub by_pointer : (native : Arch) (filter : List ℕ) (one other : Shown) → AreUnlike (insns_of filter) one other → AreAlike false one.call other.call
    → IsUnsayable native filter
by_pointer native filter one other unlike alike =
    two_apart native filter one other unlike alike.machine alike.number (alike_whole one.call other.call alike)

pub by_upper : (native : Arch) (filter : List ℕ) (one other : Shown) → AreUnlike (insns_of filter) one other → AreAlike true one.call other.call
    → is_narrow one.call.arch ≡ true → IsUnsayable native filter
by_upper native filter one other unlike alike narrow =
    two_apart native filter one other unlike alike.machine alike.number (alike_below one.call other.call alike narrow)

-- ---- machines that none lists

none_kept : (f g : Arch → Bool) (xs : List Arch) → find f xs ≡ None → list_any f (filter g xs) ≡ false
none_kept f g [] h = refl
none_kept f g (x ∷ xs) h = elim (cases_Bool (f x)) [
  | inl is ↦ absurd (none-some x (sym h ∙ ap (λ b. cond b (Some x) (find f xs)) is))
  | inr not_so ↦
      let rest : list_any f (filter g xs) ≡ false = none_kept f g xs (sym (ap (λ b. cond b (Some x) (find f xs)) not_so) ∙ h) in
      elim (cases_Bool (g x)) [
        | inl kept ↦ ap (λ b. list_any f (cond b (x ∷ filter g xs) (filter g xs))) kept ∙ ap (λ b. b || list_any f (filter g xs)) not_so ∙ rest
        | inr left ↦ ap (λ b. list_any f (cond b (x ∷ filter g xs) (filter g xs))) left ∙ rest
      ]
]

no_owner : (a b : Option Arch) → or_else a b ≡ None → a ≡ None
no_owner None b h = refl
no_owner (Some x) b h = h

pub by_machine : (native : Arch) (filter : List ℕ) (one : Shown) → IsAnswer (insns_of filter) one → one.given ≢ 0
    → machine_with (family_of native) one.call.arch one.call.nr ≡ None → IsUnsayable native filter
by_machine native filter one answer unlike none = λ bundle rec.
    let p : Policy = rec.policy in
    let family : Family = family_of native in
    let token = one.call.arch in
    let nr = one.call.nr in
    let calls = rec.means.2.calls in
    let found : find (has_call token nr) (machines_of family) ≡ None =
    no_owner (owner_of family token nr) (machine_of family token) none in
    let foreign : list_any (has_call token nr) p.machines ≡ false =
    ap (list_any (has_call token nr)) calls.machines_are
    ∙ none_kept (has_call token nr) (λ a. list_any (same_arch a) calls.archs) (machines_of family) found in
    unlike
    (said_is native bundle filter one rec answer
    ∙ ap (λ b. if b then unwrap_or (option_map (λ rule. rule.word) (find (λ rule. matches rule (words one.call)) p.rules)) p.default_word else 0) foreign)
