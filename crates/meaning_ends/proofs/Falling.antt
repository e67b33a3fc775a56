-- The measure falls at each step of an activation, its own ones and those across an ask.
use Rattle.std.proofs.Common.{◌≡◌, ℕ, zero, suc, ◌+◌, ◌*◌, ◌-◌, ◌<◌, ◌≤◌, Bool, true, false, cond, List, [], ◌∷◌, length, Option, Some, None, refl, arith, length-take, length-append}
use Rattle.std.specs.Prelude.{ℤ, nat_lt}
use Rattle.int_core.specs.Value.{Value, shape, holds, nth, without_last}
use Rattle.int_core.specs.Operations.{Event, of_add, of_sub, of_mul, of_mod, of_idiv, of_band, of_bor, of_bxor, of_shl, of_shr, computed}
use Rattle.int_core.specs.Ask.{CellName, Reply, values, faulted, left, Answer, Next, goes_on, says, stuck, cell_held}
use Rattle.tree_core.specs.declared.name.UpName.{UpName}
use Rattle.tree_core.specs.declared.name.Place.{Place}
use Rattle.tree_core.specs.declared.name.Place.TheVariants.{Unset, Upvalue, GlobalIn, GlobalOf}
use Rattle.tree_core.specs.declared.name.Place.TheVariants.{Local as LocalPlace}
use Rattle.tree_core.specs.declared.operator.UnOp.{UnOp}
use Rattle.tree_core.specs.declared.operator.UnOp.TheVariants.{Not}
use Rattle.tree_core.specs.declared.operator.BinOp.{BinOp}
use Rattle.tree_core.specs.declared.operator.BinOp.TheVariants.{Add, Sub, Mul, Mod, Idiv, Band, Bor, Bxor, Shl, Shr}
use Rattle.tree_core.specs.Tree.{Body, BodyOf, Exp, Function, Var, Table, Fields, EndFields, MoreFields, Item, Keyed}
use Rattle.tree_activation.specs.Work.{Control, leave_scope, Celling, when_declared, when_captured, Work, Pending, Activation, State}
use Rattle.tree_activation.specs.Asking.{told, heard, cut, with_pending, marked, last_pending, leave_by, leaves_scope, marks_local, captures_one, captures, declared, numbers, captured_locals}
use Rattle.tree_activation.specs.Expressions.{reads_variable, evaluates, by_integers, integer_in, arithmetic_of, binary, unary, gives_integer, makes_with, constructs, stores_item}
use Rattle.meaning_ends.specs.Units.{FallsBelow}
use Rattle.meaning_ends.proofs.Measure.{exp_size, fields_size, works_size, control_size, measure}

-- what comes next on the same unit measures less than m
abbrev pub Below : ℕ → Next Body State → Type 0
Below m next = FallsBelow measure m next

pub still_falls : (m n : ℕ) (next : Next Body State) → Below m next → m ≤ n → Below n next
still_falls m n (goes_on s) falls within = omega (arith, falls, within)
still_falls m n (says q line shared k) falls within = λ x counts. let h = falls x counts in omega (arith, h, within)
still_falls m n stuck falls within = tt

pub either_falls : (m : ℕ) (b : Bool) (x y : Next Body State) → Below m x → Below m y → Below m (cond b x y)
either_falls m true x y first second = first
either_falls m false x y first second = second

-- asks

-- the step may be at fault, or the activation left
heard_falls : (m : ℕ) (reply : Reply) (line : ℕ) (a : Activation) (k : List Work) (goes : List Value → Control)
    → 3 + 3 * length a.pending < m → ((vs : List Value) → control_size (goes vs) (works_size k) + 3 * length a.pending < m) → measure (heard reply line a k goes) < m
heard_falls m (values vs) line a k goes room each = each vs
heard_falls m (faulted text) line a k goes room each = room
heard_falls m (left e) line a k goes room each = omega (arith, room)

pub answer_falls : (m : ℕ) (x : Answer) (line : ℕ) (a : Activation) (k : List Work) (goes : List Value → Control)
    → 3 + 3 * length a.pending < m → ((vs : List Value) → control_size (goes vs) (works_size k) + 3 * length a.pending < m)
    → measure (heard x.reply line (told a x.shared) k goes) < m
answer_falls m x line a k goes room each = heard_falls m x.reply line (told a x.shared) k goes room each

-- expressions

pub reads_falls : (line : ℕ) (name : List ℕ) (place : Place) (a : Activation) (k : List Work) → Below (5 + works_size k + 3 * length a.pending) (reads_variable line name place a k)
reads_falls line name Unset a k = tt
reads_falls line name (LocalPlace n) a k = omega arith
reads_falls line name (Upvalue u) a k = λ x counts. omega arith
reads_falls line name (GlobalIn n) a k = λ x counts. answer_falls _ x _ a k _ (omega arith) (λ vs. omega arith)
reads_falls line name (GlobalOf u) a k = λ x counts. omega arith

pub captured_count : (ups : List UpName) → length (captured_locals ups) ≤ length ups
captured_count [] = omega arith
captured_count (u ∷ ups) = by u.in_stack (captured_count ups) where
  by : (b : Bool) → length (captured_locals ups) ≤ length ups → length (cond b (u.index ∷ captured_locals ups) (captured_locals ups)) ≤ length (u ∷ ups)
  by true h = omega (arith, h)
  by false h = omega (arith, h)

pub evaluates_falls : (e : Exp) (a : Activation) (k : List Work) → Below (exp_size e + works_size k + 3 * length a.pending) (evaluates e a k)
evaluates_falls (Function line (BodyOf params vararg inner ups body_line)) a k = let h = captured_count ups in omega (arith, h)
evaluates_falls (Var line name) a k = reads_falls line name.text name.place a k
evaluates_falls (Table line fs) a k = λ x counts. omega arith
evaluates_falls _ a k = omega arith

pub gives_integer_falls : (o : Option ℤ) (event : Event) (line : ℕ) (a : Activation) (k : List Work) → Below (4 + works_size k + 3 * length a.pending) (gives_integer o event line a k)
gives_integer_falls None event line a k = omega arith
gives_integer_falls (Some z) event line a k = omega arith

by_integers_falls : (event : Event) (m n : Option ℤ) (line : ℕ) (v w : Value) (a : Activation) (k : List Work)
    → Below (4 + works_size k + 3 * length a.pending) (by_integers event m n line v w a k)
by_integers_falls event None n line v w a k = λ x counts. answer_falls _ x _ a k _ (omega arith) (λ vs. omega arith)
by_integers_falls event (Some m) None line v w a k = λ x counts. answer_falls _ x _ a k _ (omega arith) (λ vs. omega arith)
by_integers_falls event (Some m) (Some n) line v w a k = gives_integer_falls (computed event m n) event line a k

arithmetic_falls : (event : Event) (line : ℕ) (v w : Value) (a : Activation) (k : List Work) → Below (4 + works_size k + 3 * length a.pending) (arithmetic_of event line v w a k)
arithmetic_falls event line v w a k = by_integers_falls event (integer_in (shape v)) (integer_in (shape w)) line v w a k

pub binary_falls : (op : BinOp) (line : ℕ) (v w : Value) (a : Activation) (k : List Work) → Below (4 + works_size k + 3 * length a.pending) (binary op line v w a k)
binary_falls Add line v w a k = arithmetic_falls of_add line v w a k
binary_falls Sub line v w a k = arithmetic_falls of_sub line v w a k
binary_falls Mul line v w a k = arithmetic_falls of_mul line v w a k
binary_falls Mod line v w a k = arithmetic_falls of_mod line v w a k
binary_falls Idiv line v w a k = arithmetic_falls of_idiv line v w a k
binary_falls Band line v w a k = arithmetic_falls of_band line v w a k
binary_falls Bor line v w a k = arithmetic_falls of_bor line v w a k
binary_falls Bxor line v w a k = arithmetic_falls of_bxor line v w a k
binary_falls Shl line v w a k = arithmetic_falls of_shl line v w a k
binary_falls Shr line v w a k = arithmetic_falls of_shr line v w a k
binary_falls _ line v w a k = λ x counts. answer_falls _ x _ a k _ (omega arith) (λ vs. omega arith)

pub unary_falls : (op : UnOp) (line : ℕ) (v : Value) (a : Activation) (k : List Work) → Below (4 + works_size k + 3 * length a.pending) (unary op line v a k)
unary_falls Not line v a k = omega arith
unary_falls _ line v a k = λ x counts. answer_falls _ x _ a k _ (omega arith) (λ vs. omega arith)

pub constructs_falls : (line : ℕ) (t : Value) (items : ℕ) (fs : Fields) (a : Activation) (k : List Work) → Below (fields_size fs + works_size k + 3 * length a.pending) (constructs line t items fs a k)
constructs_falls line t items EndFields a k = omega arith
constructs_falls line t items (MoreFields (Item e) fs) a k = omega arith
constructs_falls line t items (MoreFields (Keyed field_line key e) fs) a k = omega arith

pub stores_item_falls : (line : ℕ) (t : Value) (items : ℕ) (fs : Fields) (vs : List Value) (a : Activation) (k : List Work)
    → Below (1 + fields_size fs + works_size k + 3 * length a.pending) (stores_item line t items fs vs a k)
stores_item_falls line t items EndFields vs a k = λ x counts. omega arith
stores_item_falls line t items (MoreFields f fs) vs a k = λ x counts. omega arith

pub makes_falls : (o : Option (List CellName)) (body : Body) (a : Activation) (k : List Work) → Below (2 + works_size k + 3 * length a.pending) (makes_with o body a k)
makes_falls None body a k = tt
makes_falls (Some names) body a k = λ x counts. omega arith

-- scopes

shorter : (pending : List Pending) (level : ℕ) (p : Pending) → last_pending level pending ≡ Some p → length (without_last pending) < length pending
shorter [] level p found = absurd (cc)
shorter (x ∷ xs) level p found = omega (arith, length-take (length (x ∷ xs) - 1) (x ∷ xs))

pub leaves_falls : (level line : ℕ) (e : Value) (next : Control) (a : Activation) (k : List Work)
    → Below (1 + control_size next (works_size k) + 3 * length a.pending) (leaves_scope level line e next a k)
leaves_falls level line e next a k = by (last_pending level a.pending) refl where
  by : (o : Option Pending) → last_pending level a.pending ≡ o → Below (1 + control_size next (works_size k) + 3 * length a.pending) (leave_by o level line e next a k)
  by None found = omega arith
  by (Some p) found = let h = shorter a.pending level p found in either_falls _ p.needed _ _ (λ x counts. answer_falls _ x _ (record a { pending = without_last a.pending; captured = cut level a }) k (λ _. leave_scope level line e next) (omega (arith, h)) (λ vs. omega (arith, h))) (omega (arith, h))

one_more : (a : Activation) (n : ℕ) (needed : Bool) → length (with_pending a n needed).pending ≡ length a.pending + 1
one_more a n needed = length-append a.pending (record { number = n; needed = needed } ∷ [])

marked_falls : (m : ℕ) (reply : Reply) (line n : ℕ) (next : Control) (a : Activation) (k : List Work)
    → 3 + control_size next (works_size k) + 3 * length a.pending < m → measure (marked reply line n next a k) < m
marked_falls m (values vs) line n next a k room = let h = one_more a n true in omega (arith, h, room)
marked_falls m (faulted text) line n next a k room = omega (arith, room)
marked_falls m (left e) line n next a k room = omega (arith, room)

pub marks_falls : (line : ℕ) (name : List ℕ) (n : ℕ) (next : Control) (a : Activation) (k : List Work)
    → Below (4 + control_size next (works_size k) + 3 * length a.pending) (marks_local line name n next a k)
marks_falls line name n next a k =
    either_falls _ (holds (shape (nth a.locals n))) _ _ (λ x counts. marked_falls _ x.reply line n next (told a x.shared) k (omega arith)) (let h = one_more a n false in omega (arith, h))

pub captures_falls : (line : ℕ) (ns : List ℕ) (next : Control) (a : Activation) (k : List Work)
    → Below (length ns + 1 + control_size next (works_size k) + 3 * length a.pending) (captures line ns next a k)
captures_falls line [] next a k = omega arith
captures_falls line (n ∷ ns) next a k = either_falls _ (nat_lt n (length a.locals)) _ _ (by (cell_held n a.captured.held)) tt where
  by : (o : Option ℕ) → Below (length (n ∷ ns) + 1 + control_size next (works_size k) + 3 * length a.pending) (captures_one o line n ns next a k)
  by None = λ x counts. omega arith
  by (Some cell) = omega arith

pub declared_size : (celling : Celling) (line : ℕ) (ns : List ℕ) (next : Control) (w : ℕ) → control_size (declared celling line ns next) w ≤ length ns + 1 + control_size next w
declared_size when_declared line ns next w = omega arith
declared_size when_captured line ns next w = omega arith

pub numbers_count : (from n : ℕ) → length (numbers from n) ≡ n
numbers_count from zero = refl
numbers_count from (suc n) = let h = numbers_count (suc from) n in omega (arith, h)
