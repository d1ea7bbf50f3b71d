-- A line is answered, and what that makes of a script.
use Rattle.std.proofs.Common.{◌≡◌, ℕ, ◌+◌, ◌<◌, List, [], length, take, ap, inr, refl, sym, subst, ◌∙◌}
use Rattle.std.specs.Prelude.{Option, Some, None, Result, Ok, Err, IfOk}
use Rattle.std.specs.Io.KnownBytes.{Appends}
use Rattle.texts.specs.declared.streams.fault.WriteFault.{WriteFault}
use Rattle.texts.specs.declared.streams.fault.WriteFault.TheVariants.{Write, OutOfMemory}
use Rattle.texts.specs.Failures.{Failures, HasFailed, NoneFailed}
use Rattle.texts.specs.Sink.{WritesMade}
use Rattle.machines.specs.Arch.{family_of}
use Rattle.processes.specs.First.{by_program}
use Rattle.processes.specs.declared.outcome.Response.{Response}
use Rattle.lifecycle.specs.declared.command.Reply.{Reply}
use Rattle.lifecycle.specs.declared.command.Reply.TheVariants.{IsIn}
use Rattle.lifecycle.specs.declared.command.Status.{Status}
use Rattle.lifecycle.specs.Commands.{Command, id_of}
use Rattle.lifecycle.specs.Steps.{step}
use Rattle.lifecycle.specs.Worlds.{World}
use Rattle.script.specs.Commands as script
use Rattle.script.specs.Grammar.{LineIs}
use Rattle.session.specs.declared.bundles.Bundles.{Bundles}
use Rattle.session.specs.Answer.{counted}
use Rattle.session.specs.Commands.{CommandIs, Means}
use Rattle.session.specs.Replies.{reply_line}
use Rattle.session.specs.Responses.{Parted}
use Rattle.session.specs.inner.Carried.{AnswersLine, CarriesOut, Replies, answer_line, id_in}
use Rattle.session.specs.inner.Lines.{BreaksOff, GoesOn, RunsOut, Standing, Stands}
use Rattle.session.proofs.CarryLaws.{names}
use Rattle.session.proofs.WantLaws.{state_told}
use Rattle.session.proofs.StandLaws.{broke_off, ran_out, went_on}

module _ {S : Type 0} (sheld : S → Option (List ℕ)) (failures : S → Failures) (bundles : Bundles) where
  -- a reply was written
  pub answered : (line call : List ℕ) (response : Option Response) (number : ℕ) (asked : script.Command) (w w' : World) (old new : S)
      (result : Result ℕ WriteFault) (reply : Reply) (id : List ℕ) → Parted (family_of bundles.native) line call response
      → LineIs bundles.native call (Some asked) → CarriesOut bundles asked response w w' (Ok (Some reply)) → id ≡ id_in asked
      → WritesMade sheld failures old new (reply_line id reply) result → IfOk result (λ n. n ≡ length (reply_line id reply))
      → (result ≡ Err OutOfMemory → (s : Status) × (reply ≡ IsIn s))
      → AnswersLine sheld failures bundles line number w w' old new result
  answered line call response number asked w w' old new result reply id parts is done named written len told =
      by_command done.command done.is done.done where
        always : (r : Result ℕ WriteFault) (P : Type 0) → P → IfOk r (λ _. P)
        always (Ok n) P p = p
        always (Err e) P p = tt

        by_command : (c : Option Command) → Means bundles asked response c → Replies c w w' (Some reply)
            → AnswersLine sheld failures bundles line number w w' old new result
        by_command None meant e = absurd e
        by_command (Some c) meant e =
            let same : reply_line id reply ≡ reply_line (id_of c) (step by_program c w).0 =
            ap (λ i. reply_line i reply) (named ∙ sym (names bundles asked response c meant))
            ∙ ap (λ (p : Reply × World). reply_line (id_of c) p.0) e in
            let after : w' ≡ (step by_program c w).1 = ap (λ (p : Reply × World). p.1) e in
            record {
              command = Some c;
              is = record { call = call; response = response; parts = parts; asked = Some asked; is = is; meant = meant };
              written = subst (λ (t : List ℕ). WritesMade sheld failures old new t result) same written;
              len = subst (λ (t : List ℕ). IfOk result (λ n. n ≡ length t)) same len;
              world = always result (w' ≡ (step by_program c w).1) after;
              wants = λ none. inr (state_told by_program c w (told none).0 (sym (told none).1 ∙ ap (λ (p : Reply × World). p.0) e));
            }

  module _ (s : Standing) (held : Option (List ℕ)) (lines : List (List ℕ)) (part : List ℕ) (cs : List (Option Command)) (line : List ℕ) (number : ℕ) (same : line ≡ s.kept) (numbered : number ≡ counted (s.count + 1)) (w' : World) (old new : S) (st : Stands bundles s held (sheld old) lines part cs) where
    is_kept : (c : Option Command) → CommandIs bundles line c → CommandIs bundles s.kept c
    is_kept c is = subst (λ (l : List ℕ). CommandIs bundles l c) same is

    line_is : (c : Option Command) → answer_line by_program number c s.world ≡ answer_line by_program (counted (s.count + 1)) c s.world
    line_is c = ap (λ n. answer_line by_program n c s.world) numbered

    pub goes_on : (t : Standing) (n : ℕ) → AnswersLine sheld failures bundles line number s.world w' old new (Ok n)
        → t.world ≡ w' → t.kept ≡ [] → t.count ≡ number → t.out ≡ counted (s.out + n) → GoesOn bundles t held (sheld new) lines part cs
    goes_on t n h world kept count out =
        went_on bundles s held (sheld old) lines part cs st t (sheld new) h.command n (is_kept h.command h.is)
        (subst (λ (l : List ℕ). Appends (sheld old) (sheld new) l) (line_is h.command) h.written.0)
        (h.len ∙ ap length (line_is h.command)) (world ∙ h.world) kept (count ∙ numbered) out

    pub breaks_off : (fault : WriteFault) (m out : ℕ) → AnswersLine sheld failures bundles line number s.world w' old new (Err fault)
        → fault ≡ Write m → out ≡ counted (s.out + m) → BreaksOff bundles held (sheld new) part cs out
    breaks_off fault m out g e told =
        let h : AnswersLine sheld failures bundles line number s.world w' old new (Err (Write m)) =
        subst (λ (f : WriteFault). AnswersLine sheld failures bundles line number s.world w' old new (Err f)) e g in
        broke_off bundles s held (sheld old) lines part cs st (sheld new) h.command m out (is_kept h.command h.is)
        (subst (λ (l : List ℕ). Appends (sheld old) (sheld new) (take m l)) (line_is h.command) h.written.0)
        (subst (λ (l : List ℕ). m < length l) (line_is h.command) h.written.1) told

    pub runs_out : (fault : WriteFault) (told : ℕ) → AnswersLine sheld failures bundles line number s.world w' old new (Err fault)
        → fault ≡ OutOfMemory → told ≡ number → RunsOut bundles held (sheld new) part cs told
    runs_out fault told g none e =
        let h : AnswersLine sheld failures bundles line number s.world w' old new (Err OutOfMemory) =
        subst (λ (f : WriteFault). AnswersLine sheld failures bundles line number s.world w' old new (Err f)) none g in
        let stays : RunsOut bundles held (sheld old) part cs told =
        ran_out bundles s held (sheld old) lines part cs st h.command told (is_kept h.command h.is) (e ∙ numbered) (h.wants refl) in
        subst (λ (x : S). RunsOut bundles held (sheld x) part cs told) (sym h.written) stays

-- a fault of writing, and want of memory

module _ {S : Type 0} (held : S → Option (List ℕ)) (failures : S → Failures) (old new : S) (bytes : List ℕ) (fault : WriteFault)
    (written : WritesMade {S = S} {T = ℕ} held failures old new bytes (Err fault)) where
  by_fault : (f : WriteFault) → fault ≡ f → WritesMade {S = S} {T = ℕ} held failures old new bytes (Err f)
  by_fault f e = subst (λ (f : WriteFault). WritesMade {S = S} {T = ℕ} held failures old new bytes (Err f)) e written

  pub failed_write : (m : ℕ) → fault ≡ Write m → HasFailed (failures old) (failures new)
  failed_write m e = (by_fault (Write m) e).2

  pub not_asked : fault ≡ OutOfMemory → NoneFailed (failures old) (failures new)
  not_asked e = ap (λ s. (failures s).count) (by_fault OutOfMemory e)
