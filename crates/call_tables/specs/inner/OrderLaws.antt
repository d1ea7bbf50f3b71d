-- Where the names of rows ascend, halving finds what a search from the front does, and in a column of them no name stands
-- twice.
use Rattle.std.proofs.Common.{◌≡◌, ℕ, true, false, List, [], ◌∷◌, ◌++◌, refl, sym, ◌∙◌, ap, inl, inr}
use Rattle.std.specs.Prelude.{Option, Some, None, is_none}
use Rattle.std.specs.declared.cmp.Ordering.{Ordering}
use Rattle.std.specs.declared.cmp.Ordering.TheVariants.{Less, Equal, Greater}
use Rattle.std.specs.Ordering.{is_lt, is_eq, ordering_reverse}
use Rattle.std.specs.Option.{option_and_then}
use Rattle.std.specs.Str.{bytes_eq}
use Rattle.std.proofs.lemmas.Bool.{and_parts, cases_Bool}
use Rattle.std.proofs.lemmas.Cmp.{nat_list_cmp_total}
use Rattle.std.proofs.lemmas.Map.Text.{is_eq-slice_cmp}
use Rattle.std.proofs.lemmas.Slice.Eq.{bytes_eq-Decides}
use Rattle.call_tables.specs.Table.{Table, number_in, name_in, is_one_to_one}
use Rattle.call_tables.specs.Rows.{Rows, row_in, number_at, column_of}
use Rattle.call_tables.specs.inner.Order.{order, AllAfter, Ascends, is_before, are_sorted, numbers_differ}

is_less : (o : Ordering) → is_lt o ≡ true → o ≡ Less
is_less Less h = refl
is_less Equal h = cc
is_less Greater h = cc

-- names in order are not the same
differ : (m n : List ℕ) → order m n ≡ Less → bytes_eq m n ≡ false
differ m n h = sym (is_eq-slice_cmp m n) ∙ ap is_eq h

turned : (m n : List ℕ) (o : Ordering) → order m n ≡ o → order n m ≡ ordering_reverse o
turned m n o h = nat_list_cmp_total.antisymm n m ∙ ap ordering_reverse h

differ_after : (m n : List ℕ) → order n m ≡ Greater → bytes_eq n m ≡ false
differ_after m n h = sym (is_eq-slice_cmp n m) ∙ ap is_eq h

-- ---- tables in order

after_all : (m n : List ℕ) (t : Rows) → order m n ≡ Less → AllAfter n t → AllAfter m t
after_all m n [] h all = tt
after_all m n (e ∷ es) h all = (nat_list_cmp_total.trans m n e.0 h all.0, after_all m n es h all.1)

first_after : (n : List ℕ) (t : Rows) → is_before n t ≡ true → Ascends t → AllAfter n t
first_after n [] h s = tt
first_after n (e ∷ es) h s = let less = is_less (order n e.0) h in (less, after_all n e.0 es less s.0)

pub ascends : (t : Rows) → are_sorted t ≡ true → Ascends t
ascends [] h = tt
ascends (e ∷ es) h =
    let parts = and_parts (is_before e.0 es) (are_sorted es) h in
    let rest = ascends es parts.1 in
    (first_after e.0 es parts.0 rest, rest)

-- what stands behind an entry of a table in order, and what stands before it
after_front : (n : List ℕ) (front behind : Rows) (e : List ℕ × List ℕ) → AllAfter n (front ++ e ∷ behind) → order n e.0 ≡ Less
after_front n [] behind e all = all.0
after_front n (x ∷ xs) behind e all = after_front n xs behind e all.1

pub sorted_front : (front behind : Rows) (e : List ℕ × List ℕ) → are_sorted (front ++ e ∷ behind) ≡ true → are_sorted front ≡ true
sorted_front [] behind e h = refl
sorted_front (x ∷ []) behind e h = refl
sorted_front (x ∷ y ∷ ys) behind e h =
    let parts = and_parts (is_lt (order x.0 y.0)) (are_sorted (y ∷ (ys ++ e ∷ behind))) h in
    let rest : are_sorted (y ∷ ys) ≡ true = sorted_front (y ∷ ys) behind e parts.1 in
    rw parts.0 rest

pub sorted_behind : (front behind : Rows) (e : List ℕ × List ℕ) → are_sorted (front ++ e ∷ behind) ≡ true → are_sorted behind ≡ true
sorted_behind [] behind e h = (and_parts (is_before e.0 behind) (are_sorted behind) h).1
sorted_behind (x ∷ xs) behind e h =
    sorted_behind xs behind e (and_parts (is_before x.0 (xs ++ e ∷ behind)) (are_sorted (xs ++ e ∷ behind)) h).1

-- ---- look-ups of names

passed : (x : List ℕ × List ℕ) (xs : Rows) (name : List ℕ) → bytes_eq x.0 name ≡ false → row_in (x ∷ xs) name ≡ row_in xs name
passed x xs name h = rw h refl

hit : (x : List ℕ × List ℕ) (xs : Rows) (name : List ℕ) → bytes_eq x.0 name ≡ true → row_in (x ∷ xs) name ≡ Some x.1
hit x xs name h = rw h refl

-- a name that comes before all is not there
pub absent : (name : List ℕ) (t : Rows) → AllAfter name t → row_in t name ≡ None
absent name [] all = refl
absent name (e ∷ es) all = passed e es name (differ_after name e.0 (turned name e.0 Less all.0)) ∙ absent name es all.1

pub found : (front behind : Rows) (e : List ℕ × List ℕ) (name : List ℕ) → Ascends (front ++ e ∷ behind) → order e.0 name ≡ Equal
    → row_in (front ++ e ∷ behind) name ≡ Some e.1
found [] behind e name s same = hit e behind name (sym (is_eq-slice_cmp e.0 name) ∙ ap is_eq same)
found (x ∷ xs) behind e name s same =
    let less : order x.0 e.0 ≡ Less = after_front x.0 xs behind e s.0 in
    let before : order x.0 name ≡ Less =
    turned name x.0 Greater (sym (nat_list_cmp_total.congr e.0 name x.0 same) ∙ turned x.0 e.0 Less less) in
    passed x (xs ++ e ∷ behind) name (differ x.0 name before) ∙ found xs behind e name s.1 same

pub right : (front behind : Rows) (e : List ℕ × List ℕ) (name : List ℕ) → Ascends (front ++ e ∷ behind) → order e.0 name ≡ Less
    → row_in (front ++ e ∷ behind) name ≡ row_in behind name
right [] behind e name s less = passed e behind name (differ e.0 name less)
right (x ∷ xs) behind e name s less =
    let before : order x.0 name ≡ Less = nat_list_cmp_total.trans x.0 e.0 name (after_front x.0 xs behind e s.0) less in
    passed x (xs ++ e ∷ behind) name (differ x.0 name before) ∙ right xs behind e name s.1 less

under : (x : List ℕ × List ℕ) (xs ys : Rows) (name : List ℕ) → row_in xs name ≡ row_in ys name
    → row_in (x ∷ xs) name ≡ row_in (x ∷ ys) name
under x xs ys name h = rw h refl

pub left : (front behind : Rows) (e : List ℕ × List ℕ) (name : List ℕ) → Ascends (front ++ e ∷ behind) → order e.0 name ≡ Greater
    → row_in (front ++ e ∷ behind) name ≡ row_in front name
left [] behind e name s more =
    let before : order name e.0 ≡ Less = turned e.0 name Greater more in
    absent name (e ∷ behind) (before, after_all name e.0 behind before s.0)
left (x ∷ xs) behind e name s more = under x (xs ++ e ∷ behind) xs name (left xs behind e name s.1 more)

-- ---- columns

-- an entry of a column in front of others, by whether the row has a number there
opened : (column : ℕ) (e : List ℕ × List ℕ) (es : Rows) (nr : ℕ) → number_at column e.1 ≡ Some nr
    → column_of column (e ∷ es) ≡ (e.0, nr) ∷ column_of column es
opened column e es nr h = rw h refl

skipped : (column : ℕ) (e : List ℕ × List ℕ) (es : Rows) → number_at column e.1 ≡ None → column_of column (e ∷ es) ≡ column_of column es
skipped column e es h = rw h refl

named : (n : List ℕ) (nr : ℕ) (t : Table) (name : List ℕ) → bytes_eq n name ≡ true → number_in ((n, nr) ∷ t) name ≡ Some nr
named n nr t name h = rw h refl

unnamed : (n : List ℕ) (nr : ℕ) (t : Table) (name : List ℕ) → bytes_eq n name ≡ false → number_in ((n, nr) ∷ t) name ≡ number_in t name
unnamed n nr t name h = rw h refl

-- a name that comes before all is in no column
absent_behind : (column : ℕ) (name : List ℕ) (e : List ℕ × List ℕ) (es : Rows) (o : Option ℕ) → order name e.0 ≡ Less
    → number_in (column_of column es) name ≡ None → number_at column e.1 ≡ o → number_in (column_of column (e ∷ es)) name ≡ None
absent_behind column name e es None less rest is = ap (λ t. number_in t name) (skipped column e es is) ∙ rest
absent_behind column name e es (Some nr) less rest is =
    ap (λ t. number_in t name) (opened column e es nr is)
    ∙ unnamed e.0 nr (column_of column es) name (differ_after name e.0 (turned name e.0 Less less)) ∙ rest

pub absent_in : (column : ℕ) (name : List ℕ) (t : Rows) → AllAfter name t → number_in (column_of column t) name ≡ None
absent_in column name [] all = refl
absent_in column name (e ∷ es) all =
    absent_behind column name e es (number_at column e.1) all.0 (absent_in column name es all.1) refl

-- what a column tells of a name is in the name's row
told_here : (column : ℕ) (e : List ℕ × List ℕ) (es : Rows) (name : List ℕ) (o : Option ℕ) → AllAfter e.0 es
    → bytes_eq e.0 name ≡ true → number_at column e.1 ≡ o → number_in (column_of column (e ∷ es)) name ≡ o
told_here column e es name None all same is =
    ap (λ t. number_in t name) (skipped column e es is)
    ∙ ap (number_in (column_of column es)) (sym ((bytes_eq-Decides e.0 name).0 same)) ∙ absent_in column e.0 es all
told_here column e es name (Some nr) all same is =
    ap (λ t. number_in t name) (opened column e es nr is) ∙ named e.0 nr (column_of column es) name same

told_behind : (column : ℕ) (e : List ℕ × List ℕ) (es : Rows) (name : List ℕ) (o : Option ℕ) → bytes_eq e.0 name ≡ false
    → number_at column e.1 ≡ o → number_in (column_of column (e ∷ es)) name ≡ number_in (column_of column es) name
told_behind column e es name None other is = ap (λ t. number_in t name) (skipped column e es is)
told_behind column e es name (Some nr) other is =
    ap (λ t. number_in t name) (opened column e es nr is) ∙ unnamed e.0 nr (column_of column es) name other

pub in_column : (column : ℕ) (t : Rows) (name : List ℕ) → Ascends t
    → number_in (column_of column t) name ≡ option_and_then (number_at column) (row_in t name)
in_column column [] name s = refl
in_column column (e ∷ es) name s =
    elim (cases_Bool (bytes_eq e.0 name)) [
      | inl same ↦
          told_here column e es name (number_at column e.1) s.0 same refl
          ∙ ap (option_and_then (number_at column)) (sym (hit e es name same))
      | inr other ↦
          told_behind column e es name (number_at column e.1) other refl ∙ in_column column es name s.1
          ∙ ap (option_and_then (number_at column)) (sym (passed e es name other))
    ]

-- no name stands twice in a column of rows in order
alone : (column : ℕ) (e : List ℕ × List ℕ) (es : Rows) (o : Option ℕ) → AllAfter e.0 es → number_at column e.1 ≡ o
    → (numbers_differ (column_of column es) ≡ true → is_one_to_one (column_of column es) ≡ true)
    → numbers_differ (column_of column (e ∷ es)) ≡ true → is_one_to_one (column_of column (e ∷ es)) ≡ true
alone column e es None all is rest h =
    ap is_one_to_one (skipped column e es is) ∙ rest (sym (ap numbers_differ (skipped column e es is)) ∙ h)
alone column e es (Some nr) all is rest h =
    let opens = opened column e es nr is in
    let parts = and_parts (is_none (name_in (column_of column es) nr)) (numbers_differ (column_of column es))
    (sym (ap numbers_differ opens) ∙ h) in
    let names : is_none (number_in (column_of column es) e.0) ≡ true = rw (absent_in column e.0 es all) refl in
    let behind : is_one_to_one (column_of column es) ≡ true = rest parts.1 in
    let whole : is_one_to_one ((e.0, nr) ∷ column_of column es) ≡ true = rw (names, parts.0) behind in
    ap is_one_to_one opens ∙ whole

pub one_to_one : (column : ℕ) (t : Rows) → Ascends t → numbers_differ (column_of column t) ≡ true
    → is_one_to_one (column_of column t) ≡ true
one_to_one column [] s h = refl
one_to_one column (e ∷ es) s h = alone column e es (number_at column e.1) s.0 refl (one_to_one column es s.1) h
