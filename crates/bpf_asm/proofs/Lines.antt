-- A line, and the instruction that is read from it.
use Rattle.std.proofs.Common.{◌≡◌, ℕ, suc, ◌+◌, ◌<◌, ◌^◌, Bool, true, false, cond, ◌&&◌, ◌||◌, List, [], ◌∷◌, ◌++◌, take, refl, ap}
use Rattle.std.proofs.Common.{sym, ◌∙◌, subst, arith, lit<, inl, inr}
use Rattle.std.specs.Prelude.{◌==◌, not, map, Option, Some, None, Result, Ok, Err, option_and_then, is_some}
use Rattle.std.specs.Option.{option_map}
use Rattle.std.specs.List.{AllByRecursion, before_first, join_with_byte, position_or_len}
use Rattle.std.proofs.lemmas.Bool.{and_parts, eq-eqb, eqb-true}
use Rattle.std.proofs.lemmas.List.{append-nil}
use Rattle.std.proofs.lemmas.Option.{cond_some, same_Some}
use Rattle.std.proofs.lemmas.List.Elements.{All-from_recursion, recursion_from_All}
use Rattle.texts.specs.Splits.{split_at}
use Rattle.texts.proofs.Options.{bind_some}
use Rattle.bpf_insn.specs.declared.code.Operation.{Operation}
use Rattle.bpf_insn.specs.declared.instruction.Insn.{Insn}
use Rattle.bpf_insn.specs.Bytes.{IsInsn}
use Rattle.bpf_insn.specs.Code.{code_of, operation_of}
use Rattle.bpf_insn.proofs.CodeLaws.{code_of-operation_of, operation_of-code_of}
use Rattle.bpf_asm.specs.declared.mnemonic.Mnemonic.{Mnemonic}
use Rattle.bpf_asm.specs.declared.line.Fields.{Fields}
use Rattle.bpf_asm.specs.declared.fault.LineFault.{LineFault}
use Rattle.bpf_asm.specs.declared.fault.LineFault.TheVariants.{UnknownWord, BadNumber, TooLong, BadLine}
use Rattle.bpf_asm.specs.declared.arguments.Arguments.{Arguments}
use Rattle.bpf_asm.specs.declared.arguments.Arguments.TheVariants.{Nothing}
use Rattle.bpf_asm.specs.Faults.{HasBadNumber, HasDigits, HasFault, IsNeedlesslyRaw, IsShaped, IsShapeless, IsUnknown, first_field}
use Rattle.bpf_asm.specs.Forms.{Code, Digits, Field, Form, Jf, Jt, K, Notation, Number, Piece, RegisterA, RegisterX, line_text}
use Rattle.bpf_asm.specs.Forms.{notation_in, number_at, pieces_of, mnemonic_text}
use Rattle.bpf_asm.specs.Listing.{digits_of, form_of, has_own_form, is_told, line_of}
use Rattle.bpf_asm.specs.inner.Mnemonics.{form_with, is_raw, mnemonic_at, mnemonic_of, text_of}
use Rattle.bpf_asm.specs.inner.Reading.{arguments_at, checked, fields_at, fields_of, first_part, insn_of, insn_with, judged}
use Rattle.bpf_asm.specs.inner.Reading.{line_at, read_rest, with_fields, within}
use Rattle.bpf_asm.specs.inner.Written.{IsWritten, Written, arguments_of, content, content_by, fields_with, fixed, with_digits}
use Rattle.bpf_asm.specs.inner.Written.{written_text}
use Rattle.bpf_asm.proofs.Numerals.{are_digits-digits, number_of-digits, within_some}
use Rattle.texts.proofs.Splits.{Lacks, lacks_append, split_at_first, split_at_none, split_at_sound}
use Rattle.bpf_asm.proofs.Pieces.{Spells, OfOne, OfThree, OfFour, arguments_at-four, arguments_at-one}
use Rattle.bpf_asm.proofs.Pieces.{arguments_at-three, arguments_at_sound, lacks-written_text}
use Rattle.bpf_asm.proofs.Mnemonics.{lacks-text_of, mnemonic_at-text_of, mnemonic_at_none, mnemonic_at_sound, not_raw, text_of-mnemonic_of}
use Rattle.bpf_asm.proofs.Outcomes.{Faulty, Made, Outcome, outcome}
use Rattle.bpf_asm.proofs.Shapes.{all_digits, all_written, found, line_whole, no_code, reads_form, same_line, whole}

-- The front of a text, up to a byte.

pub before_first-split : (c : ℕ) (text : List ℕ) → before_first (λ b. b == c) text ≡ first_part text (split_at c text)
before_first-split c [] = refl
before_first-split c (b ∷ text) = by_test (b == c) (split_at c text) (before_first-split c text) where
  next : 1 + position_or_len (λ x. x == c) text ≡ suc (position_or_len (λ x. x == c) text)
  next = omega arith

  by_test : (t : Bool) (o : Option (List ℕ × List ℕ)) → before_first (λ x. x == c) text ≡ first_part text o
      → take (cond (not t) (1 + position_or_len (λ x. x == c) text) 0) (b ∷ text)
      ≡ first_part (b ∷ text)
      (cond {A = Option (List ℕ × List ℕ)} t (Some ([], text)) (option_map (λ (p : List ℕ × List ℕ). (b ∷ p.0, p.1)) o))
  by_test true o ih = refl
  by_test false None ih = rw next (ap (λ t. b ∷ t) ih)
  by_test false (Some q) ih = rw next (ap (λ t. b ∷ t) ih)

no_space : (w : Mnemonic) → Lacks 32 (text_of w)
no_space w = lacks-text_of 32 refl w

first_field-text_of : (w : Mnemonic) → first_field (text_of w) ≡ text_of w
first_field-text_of w = before_first-split 32 (text_of w) ∙ ap (first_part (text_of w)) (split_at_none 32 (text_of w) (no_space w))

first_field-rest : (w : Mnemonic) (rest : List ℕ) → first_field (text_of w ++ 32 ∷ rest) ≡ text_of w
first_field-rest w rest =
    before_first-split 32 (text_of w ++ 32 ∷ rest)
    ∙ ap (first_part (text_of w ++ 32 ∷ rest)) (split_at_first 32 (text_of w) rest (no_space w))

first_field-whole : (w : Mnemonic) (ps : List Written) → first_field (whole w ps) ≡ text_of w
first_field-whole w [] = ap first_field (append-nil (text_of w)) ∙ first_field-text_of w
first_field-whole w (p ∷ []) = first_field-rest w _
first_field-whole w (p ∷ q ∷ ps) = first_field-rest w _

first_field-shaped : (line : List ℕ) (form : Form) (d : Digits) → IsShaped line form d → first_field line ≡ mnemonic_text form
first_field-shaped line form d shaped =
    ap first_field (shaped.text ∙ line_whole form d) ∙ first_field-whole (mnemonic_of form) (map (with_digits d) (pieces_of form))
    ∙ text_of-mnemonic_of form

-- What is read of a mnemonic and pieces.

fields_at-bare : (w : Mnemonic) → fields_at (text_of w) ≡ Some (w, fields_of w Nothing)
fields_at-bare w = rw (split_at_none 32 (text_of w) (no_space w), mnemonic_at-text_of w) refl

fields_at-rest : (w : Mnemonic) (rest : List ℕ)
    → fields_at (text_of w ++ 32 ∷ rest) ≡ Some (w, option_and_then (fields_of w) (arguments_at rest))
fields_at-rest w rest = rw (split_at_first 32 (text_of w) rest (no_space w), mnemonic_at-text_of w) refl

fields_at-whole : (w : Mnemonic) (ps : List Written) (arguments : Arguments) → AllByRecursion IsWritten ps
    → arguments_of ps ≡ Some arguments
    → fields_at (whole w ps) ≡ Some (w, option_and_then (fields_of w) (arguments_of ps))
fields_at-whole w [] arguments d h = ap fields_at (append-nil (text_of w)) ∙ fields_at-bare w
fields_at-whole w (p ∷ []) arguments d h =
    fields_at-rest w _ ∙ ap (λ o. Some (w, option_and_then (fields_of w) o)) (arguments_at-one p d.0)
fields_at-whole w (p ∷ q ∷ r ∷ []) arguments d h =
    fields_at-rest w _ ∙ ap (λ o. Some (w, option_and_then (fields_of w) o)) (arguments_at-three p q r d.0 d.1.0 d.1.1.0)
fields_at-whole w (p ∷ q ∷ r ∷ s ∷ []) arguments d h =
    fields_at-rest w _ ∙ ap (λ o. Some (w, option_and_then (fields_of w) o)) (arguments_at-four p q r s d.0 d.1.0 d.1.1.0 d.1.1.1.0)
fields_at-whole w ps arguments d h = absurd (cc)

fields_at-shaped : (line : List ℕ) (form : Form) (d : Digits) → IsShaped line form d
    → fields_at line ≡ Some (mnemonic_of form, Some (fields_with form d))
fields_at-shaped line form d shaped =
    let ps = map (with_digits d) (pieces_of form) in
    let read = bind_some (arguments_of ps) (fields_of (mnemonic_of form)) (fields_with form d) (reads_form form d) in
    let each = all_written d (pieces_of form) (recursion_from_All (HasDigits d) (pieces_of form) shaped.each) in
    ap fields_at (shaped.text ∙ line_whole form d) ∙ fields_at-whole (mnemonic_of form) ps read.0 each read.1
    ∙ ap (λ o. Some (mnemonic_of form, o)) (reads_form form d)

line_at-shaped : (line : List ℕ) (form : Form) (d : Digits) → IsShaped line form d
    → line_at line ≡ checked (is_raw (mnemonic_of form)) (insn_of (fields_with form d))
unfolding line_at
line_at-shaped line form d shaped = ap judged (fields_at-shaped line form d shaped)

line_at-unread : (line : List ℕ) (w : Mnemonic) → fields_at line ≡ Some (w, None) → line_at line ≡ Err BadLine
unfolding line_at
line_at-unread line w h = ap judged h

-- Forms of instructions.

pub line_of-form : (i : Insn) (form : Form) → form_of i ≡ form → line_of i ≡ line_text form (digits_of i)
unfolding line_of
line_of-form i form h = ap (λ f. line_text f (digits_of i)) h

told : (o : Option Notation) (n : ℕ) → (o ≡ None → n ≡ 0) → (is_some o || n == 0) ≡ true
told (Some notation) n h = refl
told None n h = eq-eqb n 0 (h refl)

untold : (o : Option Notation) (n : ℕ) → (is_some o || n == 0) ≡ true → o ≡ None → n ≡ 0
untold (Some notation) n h none = absurd (cc)
untold None n h none = eqb-true n 0 h

form_of-own : (op : Operation) (i : Insn)
    → ((field : Field) → notation_in (pieces_of (Some op)) field ≡ None → number_at field i ≡ fixed field (Some op))
    → form_of i ≡ Some op
unfolding form_of
form_of-own op i hidden =
    let listed : operation_of i.code ≡ Some op = ap operation_of (hidden Code (no_code op)) ∙ operation_of-code_of op in
    let jt : is_told Jt i op ≡ true = told (notation_in (pieces_of (Some op)) Jt) i.jt (hidden Jt) in
    let jf : is_told Jf i op ≡ true = told (notation_in (pieces_of (Some op)) Jf) i.jf (hidden Jf) in
    let k : is_told K i op ≡ true = told (notation_in (pieces_of (Some op)) K) i.k (hidden K) in
    rw (listed, jt, jf, k) refl

form_parts : (op : Operation) (i : Insn) → form_of i ≡ Some op → (i.code ≡ code_of op) × (has_own_form i op ≡ true)
unfolding form_of
form_parts op i h =
    let listed = bind_some (operation_of i.code) (λ o. cond (has_own_form i o) (Some o) None) op h in
    let own = cond_some (has_own_form i listed.0) listed.0 op listed.2 in
    let code = code_of-operation_of i.code listed.0 listed.1 in
    (code ∙ ap code_of own.1, sym (ap (has_own_form i) own.1) ∙ own.0)

-- what the form doesn't show is as the form fixes it
hidden_fixed : (form : Form) (i : Insn) → form_of i ≡ form → (field : Field) → notation_in (pieces_of form) field ≡ None
    → fixed field form ≡ number_at field i
hidden_fixed None i h Code none = absurd (cc)
hidden_fixed None i h Jt none = absurd (cc)
hidden_fixed None i h Jf none = absurd (cc)
hidden_fixed None i h K none = absurd (cc)
hidden_fixed (Some op) i h Code none = sym (form_parts op i h).0
hidden_fixed (Some op) i h Jt none =
    let parts = and_parts (is_told Jt i op) (is_told Jf i op && is_told K i op) (form_parts op i h).1 in
    sym (untold (notation_in (pieces_of (Some op)) Jt) i.jt parts.0 none)
hidden_fixed (Some op) i h Jf none =
    let parts = and_parts (is_told Jt i op) (is_told Jf i op && is_told K i op) (form_parts op i h).1 in
    sym (untold (notation_in (pieces_of (Some op)) Jf) i.jf (and_parts (is_told Jf i op) (is_told K i op) parts.1).0 none)
hidden_fixed (Some op) i h K none =
    let parts = and_parts (is_told Jt i op) (is_told Jf i op && is_told K i op) (form_parts op i h).1 in
    sym (untold (notation_in (pieces_of (Some op)) K) i.k (and_parts (is_told Jf i op) (is_told K i op) parts.1).1 none)

-- Each line, judged.

pub data LineJudged (line : List ℕ) : Type 0 where
  Unknown : IsUnknown line → line_at line ≡ Err UnknownWord → LineJudged line
  Shapeless : IsShapeless line → line_at line ≡ Err BadLine → LineJudged line
  BadNumbers : HasBadNumber line → line_at line ≡ Err BadNumber → LineJudged line
  NeedlesslyRaw : IsNeedlesslyRaw line → line_at line ≡ Err BadLine → LineJudged line
  Reads : (i : Insn) → IsInsn i → line_of i ≡ line → line_at line ≡ Ok i → LineJudged line

judged_raw : (line : List ℕ) (i : Insn) → IsInsn i → line ≡ line_text None (digits_of i) → line_at line ≡ checked true (Some i)
    → (form : Form) → form_of i ≡ form → LineJudged line
judged_raw line i fits text at None form = Reads i fits (line_of-form i None form ∙ sym text) (at ∙ rw form refl)
judged_raw line i fits text at (Some op) form =
    NeedlesslyRaw (record { insn = i; fields = fits; form = λ none. clash form none; text = text }) (at ∙ rw form refl)
  where
    clash : form_of i ≡ Some op → form_of i ≡ None → ⊥
    clash f g = cc

judged_made : (line : List ℕ) (form : Form) (i : Insn) → IsInsn i → line ≡ line_text form (digits_of i)
    → line_at line ≡ checked (is_raw (mnemonic_of form)) (Some i)
    → ((field : Field) → notation_in (pieces_of form) field ≡ None → number_at field i ≡ fixed field form) → LineJudged line
judged_made line None i fits text at hidden = judged_raw line i fits text at (form_of i) refl
judged_made line (Some op) i fits text at hidden =
    Reads i fits (line_of-form i (Some op) (form_of-own op i hidden) ∙ sym text) (at ∙ ap (λ raw. checked raw (Some i)) (not_raw op))

judged_shape : (line : List ℕ) (form : Form) (d : Digits) → IsShaped line form d → LineJudged line
judged_shape line form d shaped = by_outcome (outcome form d shaped.each) where
  at : line_at line ≡ checked (is_raw (mnemonic_of form)) (insn_of (fields_with form d))
  at = line_at-shaped line form d shaped

  by_outcome : Outcome form d → LineJudged line
  by_outcome (Faulty field notation shown bad none) =
      BadNumbers (record { form = form; digits = d; shaped = shaped; notation = notation; field = field; shown = shown; bad = bad })
      (at ∙ ap (checked (is_raw (mnemonic_of form))) none)
  by_outcome (Made i made fits shown hidden) =
      judged_made line form i fits (shaped.text ∙ same_line form d (digits_of i) (λ notation field shows. (shown field notation shows).0))
      (at ∙ ap (checked (is_raw (mnemonic_of form))) made) hidden

judged_read : (line : List ℕ) (w : Mnemonic) (ps : List Written) (f : Fields) → line ≡ whole w ps → AllByRecursion IsWritten ps
    → option_and_then (fields_of w) (arguments_of ps) ≡ Some f → LineJudged line
judged_read line w ps f text each read =
    let own = found w ps f read in
    let P : List Written → Type 0 = AllByRecursion IsWritten in
    let own_digits = all_digits own.digits (pieces_of own.form) (subst P (sym own.pieces) each) in
    judged_shape line own.form own.digits (record {
      each = All-from_recursion (HasDigits own.digits) (pieces_of own.form) own_digits;
      text = text ∙ (λ x. whole (sym own.mnemonic x) (sym own.pieces x)) ∙ sym (line_whole own.form own.digits);
    })

-- a line from which no fields are read has no shape
judged_unread : (line : List ℕ) (w : Mnemonic) → first_field line ≡ text_of w → fields_at line ≡ Some (w, None) → LineJudged line
judged_unread line w begins unread =
    Shapeless (record {
      form = form_with w;
      begins = begins;
      none = λ other d shaped. clash other d (fields_at-shaped line other d shaped);
    }) (line_at-unread line w unread)
  where
    clash : (form : Form) (d : Digits) → fields_at line ≡ Some (mnemonic_of form, Some (fields_with form d)) → ⊥
    clash form d read =
        let same = same_Some (w, None) (mnemonic_of form, Some (fields_with form d)) (sym unread ∙ read) in
        let clashing = ap (λ (q : Mnemonic × Option Fields). q.1) same in
        cc

judged_rest : (line : List ℕ) (w : Mnemonic) (rest : List ℕ) → line ≡ text_of w ++ 32 ∷ rest
    → (o : Option Arguments) → arguments_at rest ≡ o → (g : Option Fields) → option_and_then (fields_of w) o ≡ g → LineJudged line
judged_rest line w rest e o read None none =
    judged_unread line w (ap first_field e ∙ first_field-rest w rest)
    (ap fields_at e ∙ fields_at-rest w rest ∙ ap (λ x. Some (w, option_and_then (fields_of w) x)) read ∙ ap (λ x. Some (w, x)) none)
judged_rest line w rest e None read (Some f) made = absurd (cc)
judged_rest line w rest e (Some arguments) read (Some f) made = by_pieces (arguments_at_sound rest arguments read) where
  by_pieces : Spells rest arguments → LineJudged line
  by_pieces (OfOne p dp t a) =
      judged_read line w (p ∷ []) f (e ∙ ap (λ x. text_of w ++ 32 ∷ x) t) (dp, tt) (ap (fields_of w) (sym a) ∙ made)
  by_pieces (OfThree p q r dp dq dr t a) =
      judged_read line w (p ∷ q ∷ r ∷ []) f (e ∙ ap (λ x. text_of w ++ 32 ∷ x) t) (dp, (dq, (dr, tt))) (ap (fields_of w) (sym a) ∙ made)
  by_pieces (OfFour p q r s dp dq dr ds t a) =
      judged_read line w (p ∷ q ∷ r ∷ s ∷ []) f (e ∙ ap (λ x. text_of w ++ 32 ∷ x) t) (dp, (dq, (dr, (ds, tt))))
      (ap (fields_of w) (sym a) ∙ made)

judged_bare : (line : List ℕ) (w : Mnemonic) → line ≡ text_of w → (g : Option Fields) → fields_of w Nothing ≡ g → LineJudged line
judged_bare line w e None none =
    judged_unread line w (ap first_field e ∙ first_field-text_of w) (ap fields_at e ∙ fields_at-bare w ∙ ap (λ x. Some (w, x)) none)
judged_bare line w e (Some f) made = judged_read line w [] f (e ∙ sym (append-nil (text_of w))) tt made

unknown : (line : List ℕ) → mnemonic_at (first_part line (split_at 32 line)) ≡ None → LineJudged line
unfolding line_at
unknown line none =
    Unknown
    (λ form e. mnemonic_at_none (first_part line (split_at 32 line)) none (mnemonic_of form)
    (sym (before_first-split 32 line) ∙ e ∙ sym (text_of-mnemonic_of form)))
    (ap (λ o. judged (with_fields o (read_rest (split_at 32 line)))) none)

pub line_judged : (line : List ℕ) → LineJudged line
line_judged line = by_mnemonic (mnemonic_at (first_part line (split_at 32 line))) refl where
  by_cut : (w : Mnemonic) (o : Option (List ℕ × List ℕ)) → split_at 32 line ≡ o → first_part line o ≡ text_of w → LineJudged line
  by_cut w None cut word = judged_bare line w word (fields_of w Nothing) refl
  by_cut w (Some parts) cut word =
      judged_rest line w parts.1 ((split_at_sound 32 line parts cut).0 ∙ ap (λ x. x ++ 32 ∷ parts.1) word) (arguments_at parts.1) refl
      (option_and_then (fields_of w) (arguments_at parts.1)) refl

  by_mnemonic : (o : Option Mnemonic) → mnemonic_at (first_part line (split_at 32 line)) ≡ o → LineJudged line
  by_mnemonic None none = unknown line none
  by_mnemonic (Some w) is = by_cut w (split_at 32 line) refl (mnemonic_at_sound (first_part line (split_at 32 line)) w is)

-- Each instruction's line, read.

small : (i : Insn) → IsInsn i → (field : Field) → number_at field i < 2 ^ 64
small i fits Code = let low = fits.code in omega arith
small i fits Jt = let low = fits.jt in omega arith
small i fits Jf = let low = fits.jf in omega arith
small i fits K = let low = fits.k in omega arith

shaped_own : (i : Insn) → IsInsn i → (form : Form) → IsShaped (line_text form (digits_of i)) form (digits_of i)
shaped_own i fits form =
    record { each = All-from_recursion (HasDigits (digits_of i)) (pieces_of form) (each (pieces_of form)); text = refl }
  where
    each : (ps : List Piece) → AllByRecursion (HasDigits (digits_of i)) ps
    each [] = tt
    each (RegisterA ∷ ps) = (tt, each ps)
    each (RegisterX ∷ ps) = (tt, each ps)
    each (Number notation field ∷ ps) = (are_digits-digits notation (number_at field i) (small i fits field), each ps)

pub shaped-line_of : (i : Insn) → IsInsn i → IsShaped (line_of i) (form_of i) (digits_of i)
shaped-line_of i fits =
    record { each = (shaped_own i fits (form_of i)).each; text = line_of-form i (form_of i) refl }

-- a form that shows or fixes each field of an instruction gives it
insn_of-fields : (form : Form) (i : Insn) → IsInsn i
    → ((field : Field) → notation_in (pieces_of form) field ≡ None → fixed field form ≡ number_at field i)
    → insn_of (fields_with form (digits_of i)) ≡ Some i
insn_of-fields form i fits hidden =
    (λ x. insn_with (within 16 (own Code x)) (within 8 (own Jt x)) (within 8 (own Jf x)) (within 32 (own K x))) ∙ widths
  where
    by_notation : (field : Field) (o : Option Notation) → notation_in (pieces_of form) field ≡ o
        → content form (digits_of i) field ≡ Some (number_at field i)
    by_notation field (Some notation) shows =
        ap (λ o. content_by o form (digits_of i) field) shows ∙ number_of-digits notation (number_at field i) (small i fits field)
    by_notation field None none =
        ap (λ o. content_by o form (digits_of i) field) none ∙ ap (λ n. Some n) (hidden field none)

    own : (field : Field) → content form (digits_of i) field ≡ Some (number_at field i)
    own field = by_notation field (notation_in (pieces_of form) field) refl

    widths : insn_with (within 16 (Some i.code)) (within 8 (Some i.jt)) (within 8 (Some i.jf)) (within 32 (Some i.k)) ≡ Some i
    widths = rw (within_some 16 i.code fits.code, within_some 8 i.jt fits.jt, within_some 8 i.jf fits.jf, within_some 32 i.k fits.k) refl

-- a raw line is read, unless the instruction has another form
line_at-raw : (line : List ℕ) (i : Insn) → IsInsn i → line ≡ line_text None (digits_of i) → line_at line ≡ checked true (Some i)
line_at-raw line i fits text =
    ap line_at text ∙ line_at-shaped (line_text None (digits_of i)) None (digits_of i) (shaped_own i fits None)
    ∙ ap (checked true) (insn_of-fields None i fits (λ field none. shown field none))
  where
    shown : (field : Field) → notation_in (pieces_of None) field ≡ None → fixed field None ≡ number_at field i
    shown Code none = absurd (cc)
    shown Jt none = absurd (cc)
    shown Jf none = absurd (cc)
    shown K none = absurd (cc)

-- the line of an instruction is read as it
pub line_at-line_of : (i : Insn) → IsInsn i → line_at (line_of i) ≡ Ok i
line_at-line_of i fits = by_form (form_of i) refl where
  by_form : (form : Form) → form_of i ≡ form → line_at (line_of i) ≡ Ok i
  by_form None form = line_at-raw (line_of i) i fits (line_of-form i None form) ∙ rw form refl
  by_form (Some op) form =
      ap line_at (line_of-form i (Some op) form)
      ∙ line_at-shaped (line_text (Some op) (digits_of i)) (Some op) (digits_of i) (shaped_own i fits (Some op))
      ∙ ap (checked (is_raw (mnemonic_of (Some op)))) (insn_of-fields (Some op) i fits (hidden_fixed (Some op) i form))
      ∙ ap (λ raw. checked raw (Some i)) (not_raw op)

-- no two instructions have one line
pub line_of_injective : (i j : Insn) → IsInsn i → IsInsn j → line_of i ≡ line_of j → i ≡ j
line_of_injective i j a b e = same_read i j (line_at (line_of j)) (ap line_at (sym e) ∙ line_at-line_of i a) (line_at-line_of j b) where
  same_read : (x y : Insn) (r : Result Insn LineFault) → r ≡ Ok x → r ≡ Ok y → x ≡ y
  same_read x y r h k = cc

-- a line has no line feed
lacks-whole : (w : Mnemonic) (ps : List Written) → AllByRecursion IsWritten ps → Lacks 10 (whole w ps)
lacks-whole w [] d = lacks_append 10 (text_of w) [] (lacks-text_of 10 refl w) tt
lacks-whole w (p ∷ ps) d =
    lacks_append 10 (text_of w) (32 ∷ join_with_byte 44 (map written_text (p ∷ ps))) (lacks-text_of 10 refl w)
    ((λ e. omega arith), joined p ps d.0 d.1)
  where
    joined : (q : Written) (qs : List Written) → IsWritten q → AllByRecursion IsWritten qs
        → Lacks 10 (join_with_byte 44 (map written_text (q ∷ qs)))
    joined q [] dq ds = lacks-written_text 10 (lit< tt) (λ e. omega arith) q dq
    joined q (r ∷ rs) dq ds =
        lacks_append 10 (written_text q) (44 ∷ join_with_byte 44 (map written_text (r ∷ rs)))
        (lacks-written_text 10 (lit< tt) (λ e. omega arith) q dq)
        ((λ e. omega arith), joined r rs ds.0 ds.1)

pub lacks-line_of : (i : Insn) → IsInsn i → Lacks 10 (line_of i)
lacks-line_of i fits =
    let shaped = shaped-line_of i fits in
    let each = recursion_from_All (HasDigits (digits_of i)) (pieces_of (form_of i)) shaped.each in
    let P : List ℕ → Type 0 = Lacks 10 in
    subst P (sym (shaped.text ∙ line_whole (form_of i) (digits_of i)))
    (lacks-whole (mnemonic_of (form_of i)) (map (with_digits (digits_of i)) (pieces_of (form_of i)))
    (all_written (digits_of i) (pieces_of (form_of i)) each))

-- Each fault is the one that is told.

shaped_raw : (line : List ℕ) → (raw : IsNeedlesslyRaw line) → IsShaped line None (digits_of raw.insn)
shaped_raw line raw = record { each = (shaped_own raw.insn raw.fields None).each; text = raw.text }

shaped_insn : (line : List ℕ) (i : Insn) → IsInsn i → line_of i ≡ line → IsShaped line (form_of i) (digits_of i)
shaped_insn line i fits text =
    record { each = (shaped_own i fits (form_of i)).each; text = sym text ∙ line_of-form i (form_of i) refl }

unknown_told : (line : List ℕ) → IsUnknown line → line_at line ≡ Err UnknownWord
unknown_told line h = by_case (line_judged line) where
  shaped_not : (form : Form) (d : Digits) → IsShaped line form d → ⊥
  shaped_not form d shaped = h form (first_field-shaped line form d shaped)

  by_case : LineJudged line → line_at line ≡ Err UnknownWord
  by_case (Unknown fault e) = e
  by_case (Shapeless fault e) = absurd (h fault.form fault.begins)
  by_case (BadNumbers fault e) = absurd (shaped_not fault.form fault.digits fault.shaped)
  by_case (NeedlesslyRaw fault e) = absurd (shaped_not None (digits_of fault.insn) (shaped_raw line fault))
  by_case (Reads i fits text e) = absurd (shaped_not (form_of i) (digits_of i) (shaped_insn line i fits text))

shapeless_told : (line : List ℕ) → IsShapeless line → line_at line ≡ Err BadLine
shapeless_told line h = by_case (line_judged line) where
  by_case : LineJudged line → line_at line ≡ Err BadLine
  by_case (Unknown fault e) = absurd (fault h.form h.begins)
  by_case (Shapeless fault e) = e
  by_case (BadNumbers fault e) = absurd (h.none fault.form fault.digits fault.shaped)
  by_case (NeedlesslyRaw fault e) = e
  by_case (Reads i fits text e) = absurd (h.none (form_of i) (digits_of i) (shaped_insn line i fits text))

bad_number_told : (line : List ℕ) → HasBadNumber line → line_at line ≡ Err BadNumber
bad_number_told line h = by_outcome (outcome h.form h.digits h.shaped.each) where
  by_outcome : Outcome h.form h.digits → line_at line ≡ Err BadNumber
  by_outcome (Faulty field notation shown bad none) =
      line_at-shaped line h.form h.digits h.shaped ∙ ap (checked (is_raw (mnemonic_of h.form))) none
  by_outcome (Made i made fits shown hidden) = absurd ((shown h.field h.notation h.shown).1 h.bad)

raw_told : (line : List ℕ) → IsNeedlesslyRaw line → line_at line ≡ Err BadLine
raw_told line h = line_at-raw line h.insn h.fields h.text ∙ by_form (form_of h.insn) refl where
  by_form : (form : Form) → form_of h.insn ≡ form → checked true (Some h.insn) ≡ Err BadLine
  by_form None form = absurd (h.form form)
  by_form (Some op) form = rw form refl

pub fault_told : (f : LineFault) (line : List ℕ) → HasFault f line → line_at line ≡ Err f
fault_told UnknownWord line h = unknown_told line h
fault_told BadNumber line h = bad_number_told line h
fault_told TooLong line h = absurd h
fault_told BadLine line (inl h) = shapeless_told line h
fault_told BadLine line (inr h) = raw_told line h
