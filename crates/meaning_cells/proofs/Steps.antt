-- One step of the two forms, by the control.
use Rattle.std.proofs.Common.{ℕ, zero, suc, ◌+◌, ◌<◌, ◌≤◌, ◌≡◌, inl, inr, ⊎_elim, Bool, true, false, cond, List, [], ◌∷◌, ◌++◌, length, Option, Some, None, refl, sym, ap, subst, ◌∙◌, arith, length-append}
use Rattle.std.proofs.lemmas.List.{length-take}
use Rattle.std.specs.Prelude.{ℤ, pos, negsuc, not, nat_lt, take, drop, reverse, codes}
use Rattle.int_core.specs.Arithmetic.{add, sub}
use Rattle.int_core.specs.Value.{Value, known, nil, boolean, integer, string, same_integer, is_nil, nth, shape, holds, bind, write, without_last, fitted}
use Rattle.int_core.proofs.ValueLemmas.{length_fitted}
use Rattle.int_core.specs.Operations.{Event, of_add, of_sub, of_mul, of_mod, of_idiv, of_band, of_bor, of_bxor, of_shl, of_shr, of_unm, of_bnot, computed, by_zero, Operation, index, arithmetic, concat, length', equal, less, less_equal, store as store_op}
use Rattle.int_core.specs.Ask.{CellName, of_local, of_upvalue, returns, throws, Ask, reads_upvalue, writes_upvalue, makes_table, makes_function, fills_table, pays, operates, calls, calls_last, marks, closes, raises, leaves, Reply, values, faulted, left, values_in, Next, stuck, goes_on, says, opens, shared_by, held_below, gone_from, brought, cell_held}
use Rattle.tree_core.specs.declared.name.UpName.{UpName}
use Rattle.tree_core.specs.declared.name.Name.{Name}
use Rattle.tree_core.specs.declared.name.Declared.{Declared}
use Rattle.tree_core.specs.declared.name.Place.{Place}
use Rattle.tree_core.specs.declared.name.Place.TheVariants.{Unset, Upvalue, GlobalIn, GlobalOf, Local as LocalPlace}
use Rattle.tree_core.specs.declared.operator.UnOp.{UnOp}
use Rattle.tree_core.specs.declared.operator.UnOp.TheVariants.{Neg, BitNot, Not, Len}
use Rattle.tree_core.specs.declared.operator.BinOp.{BinOp}
use Rattle.tree_core.specs.declared.operator.BinOp.TheVariants.{Add, Sub, Mul, Mod, Idiv, Band, Bor, Bxor, Shl, Shr, Concat, Eq, Ne, Lt, Le, Gt, Ge}
use Rattle.tree_core.specs.Tree.{Block, Body, BodyOf, Stats, EndStats, MoreStats, Stat, Empty, Local, LocalFunction, Assign, CallStat, Do, While, Repeat, If, IfElse, NumFor, NumForStep, GenFor, Label, Goto, Break, Arms, EndArms, MoreArms, Exp, Nil, True, False, Int, Str, Vararg, Function, Var, Index, Call, Method, Unary, Binary, And, Or, Paren, Table, Exps, EndExps, MoreExps, Fields, EndFields, MoreFields, Item, Keyed}
use Rattle.tree_activation.specs.Work.{End, falls_off, returns_list, until, Point, Target, to_local, to_upvalue, to_field, Purpose, for_call, for_return, for_declaration, for_assignment, for_counting, for_iterating, Control, evaluate, give, collect, construct, aim, store, choose, run, complete, decide, count_round, test_round, enter_round, capture, make, mark, pay, leave_scope, raise, finish, over, Work, key_of, object_of, field_of, operand_of, right_of, left_of, and_right, or_right, first_only, callee_of, method_of, listed, item_of, keyed_value, keyed_store, aimed_key, aimed_field, function_to, dropped, if_test, while_test, until_test, in_block, looping, repeating, counting, iterating, end_of_body, when_declared, when_captured, Pending, Activation, State, at}
use Rattle.tree_activation.specs.Asking.{first, go, says_so, asks_quickly, heard, asks, last_pending, leave_by, leaves_scope, marked, marks_local, captures_one, captures, numbers, captured_locals, cell_names}
use Rattle.tree_terms.specs.Bodies.{line_of_body, upvalues_of}
use Rattle.tree_activation.specs.Expressions.{give_first, reads_variable, evaluates, makes_with, makes, integer_in, gives_integer, by_integers, operation_of, truth_of, binary, unary, added, constructs, stores_item}
use Rattle.tree_activation.specs.Jumps.{Landing, passed_by, ahead, behind, lands, goes_to, breaks}
use Rattle.tree_activation.specs.Statements.{point_of, repeat_point, begins, marks_closed, declares, declares_function, aims_at_name, aims, paired, stores_at, stores, goes_on_from, rounds_to_come, hidden, begins_round, begins_counting, starts_counting, step_of, counts_on, counts_round, hidden_integer, iterates, tests_round, enters_round, has_none, begins_return, executes, ends, runs_on, chooses}
use Rattle.tree_activation.specs.Activation.{step, uses_list, takes_all, collects, given, completes, decides, counts_in, tests_in, enters_in, on_top, line_of_end, start}
use Rattle.list_laws.specs.Held.{Has}
use Rattle.meaning_cells.specs.Alike.{Member, IsUnpaired, Cells, AreCells, AreEven, opened, SameAsk, SameCells, Moves, FirstAlone, SecondOpens, BothOpen, Together, Steps, Alike}
use Rattle.list_laws.proofs.Tests.{lt_is, lt_true}
use Rattle.list_laws.proofs.Values.{write_more}
use Rattle.meaning_cells.proofs.Lists.{bring_size, bring_own}
use Rattle.list_laws.proofs.Held.{below_was, find_has, has_find}
use Rattle.meaning_cells.proofs.Relation.{View, one, two, Held, held_more, held_even, held_owns, held_cut, held_told, held_first, held_second, held_both, bound, floor, Under, Low, IsEnd, IsPoint, Serves, Sound, Ready, Landed, Req, Rel, same, early, steps_behind, brought_same, in_scope_too}
use Rattle.meaning_cells.proofs.Facts.{under_none, low_none, point_ok, repeat_ok, numbers_in, marks_req, round_size, enter_size, integer_in_scope, IsLanding, ahead_ok, behind_ok}

under_low : (b : Option ℕ) (level : ℕ) (hd : List (ℕ × ℕ)) → Under b level → Low b (held_below level hd)
under_low None level hd u = tt
under_low (Some m) level hd u = λ n c k. let w = below_was level hd n c k in let l = w.1 in omega (arith, u, l)

landed_req : (next : Control) (level : ℕ) (b : Option ℕ) (f : ℕ) (hd hc : List (ℕ × ℕ)) → Landed level next b f → Req next b f (held_below level hd) hc
landed_req complete level b f hd hc r = under_low b level hd r
landed_req (run p) level b f hd hc r = r
landed_req (pay line next) level b f hd hc r = landed_req next level b f hd hc r
landed_req (decide truth) level b f hd hc r = r
landed_req (finish line l) level b f hd hc r = tt
landed_req _ level b f hd hc r = absurd r

abbrev told : View → List Value → View
told v ls = record v { ls = ls; gd = []; gc = [] }

-- alike, and the first one is behind by at most so many steps
abbrev pub Behind : ℕ → Cells → State → State → Type 0
Behind m ps s t = (r : Rel ps s t) × (steps_behind r ≤ m)

-- the first form opens a cell for a local that was declared
pub early_like : (ps : Cells) (v : View) (k : List Work) (line : ℕ) (ns : List ℕ) (control : Control) → Held ps (length v.ls) v.hd v.gd v.hc v.gc → floor k ≤ length v.ls
    → ((n : ℕ) → Member n ns → n < length v.ls) → ((hd : List (ℕ × ℕ)) → Req control (bound k) (floor k) hd v.hc) → Sound k
    → FirstAlone (Behind (length ns)) ps (captures line ns control (one v) k) (at control (two v) k)
early_like ps v k line [] control h d scope r s = (same v k control h d (r v.hd) s, omega arith)
early_like ps v k line (m ∷ ns) control h d scope r s =
    subst (λ b. FirstAlone (Behind (suc (length ns))) ps (cond b (captures_one (cell_held m v.hd) line m ns control (one v) k) stuck) (at control (two v) k))
    (sym (lt_true m (length v.ls) (scope m (inl refl)))) (by (cell_held m v.hd) refl)
  where
    by : (o : Option ℕ) → cell_held m v.hd ≡ o → FirstAlone (Behind (suc (length ns))) ps (captures_one o line m ns control (one v) k) (at control (two v) k)
    by (Some c) e = (early v k line ns control h d (λ n z. scope n (inr z)) r s, omega arith)
    by None e = (
      held_owns ps (length v.ls) v.hd v.gd v.hc v.gc v.ls h,
      λ x quiet number.
          let w = record v { hd = (m, x.cell) ∷ v.hd; gd = [] } in
          let now : Cells = record ps { stored = opened (shared_by v.hd v.ls ++ v.gd) (nth v.ls m) ps.stored; own = x.cell ∷ ps.own } in
          subst (λ ls. Behind (suc (length ns)) now (at (capture line ns control) (one (record v { ls = ls; hd = (m, x.cell) ∷ v.hd; gd = [] })) k) (at control (two v) k))
          (sym (ap (λ xs. brought v.hd xs v.ls) quiet ∙ bring_own v.hd v.gd v.ls h.scope)) (
            early w k line ns control (held_first ps (length v.ls) m v.ls (nth v.ls m) v.hd v.gd v.hc v.gc x.cell h (scope m (inl refl)) e number) d (λ n z. scope n (inr z)) r s,
            omega arith,
          ),
    )

first_by : (Q R : Cells → State → State → Type 0) → ((ps : Cells) (s t : State) → Q ps s t → R ps s t) → (ps : Cells) (x : Next Body State) (t : State) → FirstAlone Q ps x t → FirstAlone R ps x t
first_by Q R f ps (goes_on s) t q = f ps s t q
first_by Q R f ps (says (opens v) line shared k) t q = (q.0, λ x a b. f _ (k x) t (q.1 x a b))
first_by Q R f ps x t q = absurd q

module _ (Q : Cells → State → State → Type 0) (keep : (ps : Cells) (s t : State) → Rel ps s t → Q ps s t) (ps : Cells) where
  goes_at : (now : Cells) (v : View) (k : List Work) (control : Control) → Held now (length v.ls) v.hd v.gd v.hc v.gc → floor k ≤ length v.ls → Req control (bound k) (floor k) v.hd v.hc → Sound k
      → Q now (at control (one v) k) (at control (two v) k)
  goes_at now v k control h d r s = keep now (at control (one v) k) (at control (two v) k) (same v k control h d r s)

  goes : (v : View) (k : List Work) (control : Control) → Held ps (length v.ls) v.hd v.gd v.hc v.gc → floor k ≤ length v.ls → Req control (bound k) (floor k) v.hd v.hc → Sound k
      → Q ps (at control (one v) k) (at control (two v) k)
  goes v k control h d r s = keep ps (at control (one v) k) (at control (two v) k) (same v k control h d r s)

  either : (b : Bool) (x y z w : Next Body State) → Moves Q ps x z → Moves Q ps y w → Moves Q ps (cond b x y) (cond b z w)
  either true x y z w m n = m
  either false x y z w m n = n

  -- an ask of both, and what each reply leads to
  hears : (v : View) (line : ℕ) (q r : Ask Body) (F : Reply → Activation → State) → SameAsk ps.pairs q r → Held ps (length v.ls) v.hd v.gd v.hc v.gc
      → ((now : Cells) (reply : Reply) (ls : List Value) → Held now (length ls) v.hd [] v.hc [] → length ls ≡ length v.ls → Q now (F reply (one (told v ls))) (F reply (two (told v ls))))
      → Moves Q ps (says_so q line (one v) (λ x b. F x.reply b)) (says_so r line (two v) (λ x b. F x.reply b))
  hears v line q r F like h after = (
    like,
    refl,
    held_owns ps (length v.ls) v.hd v.gd v.hc v.gc v.ls h,
    held_even ps (length v.ls) v.hd v.gd v.hc v.gc v.ls h,
    λ now on x y z.
        let e = brought_same ps now v x y h on z.even z.brings in
        let size = bring_size x.shared v.hd v.ls h.scope in
        let held = held_told ps now (length v.ls) (length (brought v.hd x.shared v.ls)) v.hd v.gd v.hc v.gc (shared_by v.hd v.ls ++ v.gd) (shared_by v.hc v.ls ++ v.gc) h
        (λ n c k. let l = h.scope n c k in omega (arith, l, size)) on z.even in
        subst (λ reply. Q now (F x.reply (one (told v (brought v.hd x.shared v.ls)))) (F reply (two (told v (brought v.hc y.shared v.ls))))) z.reply
        (subst (λ ls. Q now (F x.reply (one (told v (brought v.hd x.shared v.ls)))) (F x.reply (two (told v ls)))) e (after now x.reply (brought v.hd x.shared v.ls) held size)),
  )

  heard_like : (v : View) (line : ℕ) (k : List Work) (to : List Value → Control) → floor k ≤ length v.ls → ((ws : List Value) → Req (to ws) (bound k) (floor k) v.hd v.hc) → Sound k
      → (now : Cells) (reply : Reply) (ls : List Value) → Held now (length ls) v.hd [] v.hc [] → length ls ≡ length v.ls → Q now (heard reply line (one (told v ls)) k to) (heard reply line (two (told v ls)) k to)
  heard_like v line k to d r s now (values ws) ls h e = goes_at now (told v ls) k (to ws) h (omega (arith, d, e)) (r ws) s
  heard_like v line k to d r s now (faulted text) ls h e = goes_at now (told v ls) [] (raise line text) h (omega arith) tt tt
  heard_like v line k to d r s now (left error) ls h e = goes_at now (told v ls) [] (leave_scope 0 line error (finish line (throws error))) h (omega arith) (omega arith, tt) tt

  asks_like : (v : View) (line : ℕ) (k : List Work) (q : Ask Body) (to : List Value → Control) → SameAsk ps.pairs q q → Held ps (length v.ls) v.hd v.gd v.hc v.gc → floor k ≤ length v.ls
      → ((ws : List Value) → Req (to ws) (bound k) (floor k) v.hd v.hc) → Sound k → Moves Q ps (asks q line (one v) k to) (asks q line (two v) k to)
  asks_like v line k q to like h d r s = hears v line q q (λ reply b. heard reply line b k to) like h (heard_like v line k to d r s)

  quick_like : (v : View) (line : ℕ) (k : List Work) (q r : Ask Body) (to : List Value → Control) → SameAsk ps.pairs q r → Held ps (length v.ls) v.hd v.gd v.hc v.gc → floor k ≤ length v.ls
      → ((ws : List Value) → Req (to ws) (bound k) (floor k) v.hd v.hc) → Sound k → Moves Q ps (asks_quickly q line (one v) k to) (asks_quickly r line (two v) k to)
  quick_like v line k q r to like h d req s =
      hears v line q r (λ reply b. at (to (values_in reply)) b k) like h (λ now reply ls held e. goes_at now (told v ls) k (to (values_in reply)) held (omega (arith, d, e)) (req (values_in reply)) s)

  -- scopes

  close_like : (v : View) (k : List Work) (p : Pending) (level line : ℕ) (e : Value) (next : Control) → Held ps (length v.ls) v.hd v.gd v.hc v.gc → floor k ≤ length v.ls
      → (floor k ≤ level) × Landed level next (bound k) (floor k) → Sound k
      → Moves Q ps (leave_by (Some p) level line e next (one v) k) (leave_by (Some p) level line e next (two v) k)
  close_like v k p level line e next h d r s =
      let w = record v { pd = without_last v.pd; hd = held_below level v.hd; gd = gone_from level v.hd v.ls ++ v.gd; hc = held_below level v.hc; gc = gone_from level v.hc v.ls ++ v.gc } in
      let u = record v { pd = without_last v.pd } in
      either p.needed
      (asks (closes (nth v.ls p.number) e) line (one w) k (λ _. leave_scope level line e next)) (go (leave_scope level line e next) (one u) k)
      (asks (closes (nth v.ls p.number) e) line (two w) k (λ _. leave_scope level line e next)) (go (leave_scope level line e next) (two u) k)
      (asks_like w line k (closes (nth v.ls p.number) e) (λ _. leave_scope level line e next) refl (held_cut ps (length v.ls) (length v.ls) level v.hd v.gd v.hc v.gc v.ls h (λ m a b. a)) d (λ _. r) s)
      (goes u k (leave_scope level line e next) h d r s)

  leave_like : (v : View) (k : List Work) (level line : ℕ) (e : Value) (next : Control) → Held ps (length v.ls) v.hd v.gd v.hc v.gc → floor k ≤ length v.ls
      → (floor k ≤ level) × Landed level next (bound k) (floor k) → Sound k → Moves Q ps (leaves_scope level line e next (one v) k) (leaves_scope level line e next (two v) k)
  leave_like v k level line e next h d r s = by (last_pending level v.pd) where
    by : (o : Option Pending) → Moves Q ps (leave_by o level line e next (one v) k) (leave_by o level line e next (two v) k)
    by (Some p) = close_like v k p level line e next h d r s
    by None =
        let z = length-take level v.ls in
        let low = r.0 in
        goes (record v { ls = take level v.ls; hd = held_below level v.hd; gd = gone_from level v.hd v.ls ++ v.gd; hc = held_below level v.hc; gc = gone_from level v.hc v.ls ++ v.gc }) k next
        (held_cut ps (length v.ls) (length (take level v.ls)) level v.hd v.gd v.hc v.gc v.ls h (λ n a b. omega (arith, a, b, z))) (omega (arith, d, low, z)) (landed_req next level (bound k) (floor k) v.hd (held_below level v.hc) r.1) s

  mark_like : (v : View) (k : List Work) (line : ℕ) (name : List ℕ) (n : ℕ) (next : Control) → Held ps (length v.ls) v.hd v.gd v.hc v.gc → floor k ≤ length v.ls
      → Req next (bound k) (floor k) v.hd v.hc → Sound k → Moves Q ps (marks_local line name n next (one v) k) (marks_local line name n next (two v) k)
  mark_like v k line name n next h d r s =
      let u = record v { pd = v.pd ++ record { number = n; needed = false } ∷ [] } in
      either (holds (shape (nth v.ls n)))
      (says_so (marks (nth v.ls n) name) line (one v) (λ x b. marked x.reply line n next b k)) (go next (one u) k)
      (says_so (marks (nth v.ls n) name) line (two v) (λ x b. marked x.reply line n next b k)) (go next (two u) k)
      (hears v line (marks (nth v.ls n) name) (marks (nth v.ls n) name) (λ reply b. marked reply line n next b k) refl h after)
      (goes u k next h d r s)
    where
      after : (now : Cells) (reply : Reply) (ls : List Value) → Held now (length ls) v.hd [] v.hc [] → length ls ≡ length v.ls → Q now (marked reply line n next (one (told v ls)) k) (marked reply line n next (two (told v ls)) k)
      after now (values ws) ls held e = goes_at now (record v { ls = ls; gd = []; gc = []; pd = v.pd ++ record { number = n; needed = true } ∷ [] }) k next held (omega (arith, d, e)) r s
      after now (faulted text) ls held e = heard_like v line k (λ _. next) d (λ _. r) s now (faulted text) ls held e
      after now (left error) ls held e = heard_like v line k (λ _. next) d (λ _. r) s now (left error) ls held e

  -- a function gets its cells

  ready_more : (ns : List ℕ) (m : ℕ) (body : Body) (hc to : List (ℕ × ℕ)) (d : ℕ) → Ready (m ∷ ns) body hc → Has m d to → ((n x : ℕ) → Has n x hc → Has n x to) → Ready ns body to
  ready_more ns m body hc to d r has more n k =
      ⊎_elim (λ a. ⊎_elim (λ e. inr (d, subst (λ z. Has z d to) e has)) (λ b. inl b) a) (λ a. inr (a.0, more n a.0 a.1)) (r n k)

  capture_like : (v : View) (k : List Work) (line : ℕ) (ns : List ℕ) (body : Body) → Held ps (length v.ls) v.hd v.gd v.hc v.gc → floor k ≤ length v.ls
      → Ready ns body v.hc → Sound k → Together Q ps (captures line ns (make body) (one v) k) (captures line ns (make body) (two v) k)
  capture_like v k line [] body h d r s = inl (goes v k (make body) h d r s)
  capture_like v k line (m ∷ ns) body h d r s = in_scope (nat_lt m (length v.ls)) refl where
    by : m < length v.ls → (o p : Option ℕ) → cell_held m v.hd ≡ o → cell_held m v.hc ≡ p
        → Together Q ps (captures_one (cell_held m v.hd) line m ns (make body) (one v) k) (captures_one (cell_held m v.hc) line m ns (make body) (two v) k)
    by l None (Some c) e f = absurd (let b = h.both m c (find_has v.hc m c f) in has_find v.hd m b.0 b.1 e)
    by l (Some c) (Some x) e f =
        inl (subst (λ o. Moves Q ps (captures_one o line m ns (make body) (one v) k) (captures_one (cell_held m v.hc) line m ns (make body) (two v) k)) (sym e)
        (subst (λ o. Moves Q ps (captures_one (Some c) line m ns (make body) (one v) k) (captures_one o line m ns (make body) (two v) k)) (sym f)
        (goes v k (capture line ns (make body)) h d (ready_more ns m body v.hc v.hc x r (find_has v.hc m x f) (λ n y z. z)) s)))
    by l (Some c) None e f =
        let has = find_has v.hd m c e in
        let alone : IsUnpaired c ps.pairs = ⊎_elim (λ a. absurd (has_find v.hc m a.0 a.1 f)) (λ a. a) (h.each m c has) in
        inr (inl (subst (λ o. SecondOpens Q ps (captures_one o line m ns (make body) (one v) k) (captures_one (cell_held m v.hc) line m ns (make body) (two v) k)) (sym e)
        (subst (λ o. SecondOpens Q ps (captures_one (Some c) line m ns (make body) (one v) k) (captures_one o line m ns (make body) (two v) k)) (sym f) (
          c,
          h.mine m c has,
          alone,
          λ y quiet number.
              let now : Cells = record ps { pairs = (c, y.cell) ∷ ps.pairs; stored_too = opened (shared_by v.hc v.ls ++ v.gc) (nth v.ls m) ps.stored_too } in
              subst (λ ls. Q now (at (capture line ns (make body)) (one v) k) (at (capture line ns (make body)) (two (record v { ls = ls; hc = (m, y.cell) ∷ v.hc; gc = [] })) k))
              (sym (ap (λ xs. brought v.hc xs v.ls) quiet ∙ bring_own v.hc v.gc v.ls (in_scope_too ps v h)))
              (keep now (at (capture line ns (make body)) (one v) k) (at (capture line ns (make body)) (two (record v { hc = (m, y.cell) ∷ v.hc; gc = [] })) k)
              (same (record v { hc = (m, y.cell) ∷ v.hc; gc = [] }) k (capture line ns (make body))
              (held_second ps (length v.ls) m c v.ls (nth v.ls m) v.hd v.gd v.hc v.gc y.cell h has alone f number) d
              (ready_more ns m body v.hc ((m, y.cell) ∷ v.hc) y.cell r (inl (refl, refl)) (λ n x z. inr z)) s)),
        ))))
    by l None None e f =
        inr (inr (subst (λ o. BothOpen Q ps (captures_one o line m ns (make body) (one v) k) (captures_one (cell_held m v.hc) line m ns (make body) (two v) k)) (sym e)
        (subst (λ o. BothOpen Q ps (captures_one None line m ns (make body) (one v) k) (captures_one o line m ns (make body) (two v) k)) (sym f) (
          refl,
          refl,
          held_owns ps (length v.ls) v.hd v.gd v.hc v.gc v.ls h,
          λ x y quiet also number number_too.
              let now : Cells = record {
                pairs = (x.cell, y.cell) ∷ ps.pairs;
                stored = opened (shared_by v.hd v.ls ++ v.gd) (nth v.ls m) ps.stored;
                stored_too = opened (shared_by v.hc v.ls ++ v.gc) (nth v.ls m) ps.stored_too;
                own = x.cell ∷ ps.own;
              } in
              subst (λ ls. Q now (at (capture line ns (make body)) (one (record v { ls = ls; hd = (m, x.cell) ∷ v.hd; gd = [] })) k) (at (capture line ns (make body)) (two (record v { ls = brought v.hc y.shared v.ls; hc = (m, y.cell) ∷ v.hc; gc = [] })) k))
              (sym (ap (λ xs. brought v.hd xs v.ls) quiet ∙ bring_own v.hd v.gd v.ls h.scope))
              (subst (λ ls. Q now (at (capture line ns (make body)) (one (record v { hd = (m, x.cell) ∷ v.hd; gd = [] })) k) (at (capture line ns (make body)) (two (record v { ls = ls; hc = (m, y.cell) ∷ v.hc; gc = [] })) k))
              (sym (ap (λ xs. brought v.hc xs v.ls) also ∙ bring_own v.hc v.gc v.ls (in_scope_too ps v h)))
              (let w = record v { hd = (m, x.cell) ∷ v.hd; gd = []; hc = (m, y.cell) ∷ v.hc; gc = [] } in
              keep now (at (capture line ns (make body)) (one w) k) (at (capture line ns (make body)) (two w) k)
              (same w k (capture line ns (make body)) (held_both ps (length v.ls) m v.ls (nth v.ls m) (nth v.ls m) v.hd v.gd v.hc v.gc x.cell y.cell h l e f number number_too) d
              (ready_more ns m body v.hc ((m, y.cell) ∷ v.hc) y.cell r (inl (refl, refl)) (λ n z q. inr q)) s))),
        ))))

    in_scope : (b : Bool) → nat_lt m (length v.ls) ≡ b
        → Together Q ps (cond b (captures_one (cell_held m v.hd) line m ns (make body) (one v) k) stuck) (cond b (captures_one (cell_held m v.hc) line m ns (make body) (two v) k) stuck)
    in_scope true e = by (lt_is m (length v.ls) e) (cell_held m v.hd) (cell_held m v.hc) refl refl
    in_scope false e = inl tt

  -- expressions

  variable_like : (line : ℕ) (name : List ℕ) (place : Place) (v : View) (k : List Work) → Held ps (length v.ls) v.hd v.gd v.hc v.gc → floor k ≤ length v.ls → Sound k
      → Moves Q ps (reads_variable line name place (one v) k) (reads_variable line name place (two v) k)
  variable_like line name Unset v k h d s = tt
  variable_like line name (LocalPlace m) v k h d s = goes v k (give (nth v.ls m ∷ [])) h d tt s
  variable_like line name (Upvalue u) v k h d s = quick_like v line k (reads_upvalue u) (reads_upvalue u) give_first refl h d (λ ws. tt) s
  variable_like line name (GlobalIn m) v k h d s = asks_like v line k (operates index (nth v.ls m ∷ known (string name) ∷ [])) give_first refl h d (λ ws. tt) s
  variable_like line name (GlobalOf u) v k h d s =
      quick_like v line (field_of line (known (string name)) ∷ k) (reads_upvalue u) (reads_upvalue u) give_first refl h d (λ ws. tt) (tt, s)

  expressions_like : (e : Exp) (v : View) (k : List Work) → Held ps (length v.ls) v.hd v.gd v.hc v.gc → floor k ≤ length v.ls → Sound k
      → Moves Q ps (evaluates e (one v) k) (evaluates e (two v) k)
  expressions_like (Nil line) v k h d s = goes v k (give (known nil ∷ [])) h d tt s
  expressions_like (True line) v k h d s = goes v k (give (known (boolean true) ∷ [])) h d tt s
  expressions_like (False line) v k h d s = goes v k (give (known (boolean false) ∷ [])) h d tt s
  expressions_like (Int line i) v k h d s = goes v k (give (known (integer i) ∷ [])) h d tt s
  expressions_like (Str line bytes) v k h d s = goes v k (give (known (string bytes) ∷ [])) h d tt s
  expressions_like (Vararg line) v k h d s = goes v k (give v.vs) h d tt s
  expressions_like (Function line body) v k h d s = goes v k (capture (line_of_body body) (captured_locals (upvalues_of body)) (make body)) h d (λ m z. inl z) s
  expressions_like (Var line name) v k h d s = variable_like line name.text name.place v k h d s
  expressions_like (Index line object key) v k h d s = goes v (key_of line key ∷ k) (evaluate object) h d tt (tt, s)
  expressions_like (Call line callee es) v k h d s = goes v (callee_of line false es ∷ k) (evaluate callee) h d tt (tt, s)
  expressions_like (Method line object name es) v k h d s = goes v (method_of line false name.text es ∷ k) (evaluate object) h d tt (tt, s)
  expressions_like (Unary line op operand) v k h d s = goes v (operand_of line op ∷ k) (evaluate operand) h d tt (tt, s)
  expressions_like (Binary line op left_side right_side) v k h d s = goes v (right_of line op right_side ∷ k) (evaluate left_side) h d tt (tt, s)
  expressions_like (And line left_side right_side) v k h d s = goes v (and_right right_side ∷ k) (evaluate left_side) h d tt (tt, s)
  expressions_like (Or line left_side right_side) v k h d s = goes v (or_right right_side ∷ k) (evaluate left_side) h d tt (tt, s)
  expressions_like (Paren line inner) v k h d s = goes v (first_only ∷ k) (evaluate inner) h d tt (tt, s)
  expressions_like (Table line fields) v k h d s = quick_like v line k makes_table makes_table (λ vs. construct line (first vs) 0 fields) refl h d (λ ws. tt) s

  -- functions

  names_like : (size : ℕ) (hd : List (ℕ × ℕ)) (gd : List (ℕ × Value)) (hc : List (ℕ × ℕ)) (gc : List (ℕ × Value)) → Held ps size hd gd hc gc → (us : List UpName) → ((m : ℕ) → Member m (captured_locals us) → (x : ℕ) × Has m x hc)
      → (names : List CellName) × (others : List CellName) × (cell_names us hd ≡ Some names) × (cell_names us hc ≡ Some others) × SameCells ps.pairs names others
  names_like size hd gd hc gc h [] r = ([], [], refl, refl, tt)
  names_like size hd gd hc gc h (u ∷ us) r = by u.in_stack (cell_held u.index hd) (cell_held u.index hc) refl refl r (names_like size hd gd hc gc h us)
    where
      by : (b : Bool) (o p : Option ℕ) → cell_held u.index hd ≡ o → cell_held u.index hc ≡ p
          → ((m : ℕ) → Member m (cond b (u.index ∷ captured_locals us) (captured_locals us)) → (x : ℕ) × Has m x hc)
          → (((m : ℕ) → Member m (captured_locals us) → (x : ℕ) × Has m x hc)
          → (names : List CellName) × (others : List CellName) × (cell_names us hd ≡ Some names) × (cell_names us hc ≡ Some others) × SameCells ps.pairs names others)
          → (names : List CellName) × (others : List CellName)
          × (bind (cond b (bind (cell_held u.index hd) (λ cell. Some (of_local cell))) (Some (of_upvalue u.index))) (λ name. bind (cell_names us hd) (λ names. Some (name ∷ names))) ≡ Some names)
          × (bind (cond b (bind (cell_held u.index hc) (λ cell. Some (of_local cell))) (Some (of_upvalue u.index))) (λ name. bind (cell_names us hc) (λ names. Some (name ∷ names))) ≡ Some others)
          × SameCells ps.pairs names others
      by false o p e f r ih =
          let m = ih r in (
            of_upvalue u.index ∷ m.0,
            of_upvalue u.index ∷ m.1,
            ap (λ q. bind q (λ names. Some (of_upvalue u.index ∷ names))) m.2,
            ap (λ q. bind q (λ names. Some (of_upvalue u.index ∷ names))) m.3,
            (refl, m.4),
          )
      by true o None e f r ih = absurd (let z = r u.index (inl refl) in has_find hc u.index z.0 z.1 f)
      by true None (Some x) e f r ih = absurd (let b = h.both u.index x (find_has hc u.index x f) in has_find hd u.index b.0 b.1 e)
      by true (Some c) (Some x) e f r ih =
          let m = ih (λ n z. r n (inr z)) in
          let b = h.both u.index x (find_has hc u.index x f) in (
            of_local c ∷ m.0,
            of_local x ∷ m.1,
            ap (λ q. bind (bind q (λ cell. Some (of_local cell))) (λ name. bind (cell_names us hd) (λ names. Some (name ∷ names)))) e ∙ ap (λ q. bind q (λ names. Some (of_local c ∷ names))) m.2,
            ap (λ q. bind (bind q (λ cell. Some (of_local cell))) (λ name. bind (cell_names us hc) (λ names. Some (name ∷ names)))) f ∙ ap (λ q. bind q (λ names. Some (of_local x ∷ names))) m.3,
            (subst (λ z. Has z x ps.pairs) (h.one_d u.index b.0 c b.1 (find_has hd u.index c e)) b.2, m.4),
          )

  make_like : (body : Body) (v : View) (k : List Work) → Held ps (length v.ls) v.hd v.gd v.hc v.gc → floor k ≤ length v.ls → Ready [] body v.hc → Sound k
      → Moves Q ps (makes body (one v) k) (makes body (two v) k)
  make_like body v k h d r s =
      let m = names_like (length v.ls) v.hd v.gd v.hc v.gc h (upvalues_of body) (λ n z. ⊎_elim (λ a. absurd a) (λ a. a) (r n z)) in
      subst (λ o. Moves Q ps (makes_with o body (one v) k) (makes_with (cell_names (upvalues_of body) v.hc) body (two v) k)) (sym m.2)
      (subst (λ o. Moves Q ps (makes_with (Some m.0) body (one v) k) (makes_with o body (two v) k)) (sym m.3)
      (quick_like v (line_of_body body) k (makes_function body m.0) (makes_function body m.1) give_first (refl, m.4) h d (λ ws. tt) s))

  -- operators

  integer_like : (o : Option ℤ) (event : Event) (line : ℕ) (v : View) (k : List Work) → Held ps (length v.ls) v.hd v.gd v.hc v.gc → floor k ≤ length v.ls → Sound k
      → Moves Q ps (gives_integer o event line (one v) k) (gives_integer o event line (two v) k)
  integer_like None event line v k h d s = goes v k (raise line (by_zero event)) h d tt s
  integer_like (Some z) event line v k h d s = goes v k (give (known (integer z) ∷ [])) h d tt s

  arithmetic_like : (event : Event) (o p : Option ℤ) (line : ℕ) (a b : Value) (v : View) (k : List Work) → Held ps (length v.ls) v.hd v.gd v.hc v.gc → floor k ≤ length v.ls → Sound k
      → Moves Q ps (by_integers event o p line a b (one v) k) (by_integers event o p line a b (two v) k)
  arithmetic_like event None p line a b v k h d s = asks_like v line k (operates (arithmetic event) (a ∷ b ∷ [])) give_first refl h d (λ ws. tt) s
  arithmetic_like event (Some i) None line a b v k h d s = asks_like v line k (operates (arithmetic event) (a ∷ b ∷ [])) give_first refl h d (λ ws. tt) s
  arithmetic_like event (Some i) (Some j) line a b v k h d s = integer_like (computed event i j) event line v k h d s

  operates_like : (op : Operation) (vs : List Value) (line : ℕ) (v : View) (k : List Work) → Held ps (length v.ls) v.hd v.gd v.hc v.gc → floor k ≤ length v.ls → Sound k
      → Moves Q ps (operation_of op vs line (one v) k) (operation_of op vs line (two v) k)
  operates_like op vs line v k h d s = asks_like v line k (operates op vs) give_first refl h d (λ ws. tt) s

  truth_like : (op : Operation) (as_is : Bool) (a b : Value) (line : ℕ) (v : View) (k : List Work) → Held ps (length v.ls) v.hd v.gd v.hc v.gc → floor k ≤ length v.ls → Sound k
      → Moves Q ps (truth_of op as_is a b line (one v) k) (truth_of op as_is a b line (two v) k)
  truth_like op as_is a b line v k h d s =
      asks_like v line k (operates op (a ∷ b ∷ [])) (λ vs. give (known (boolean (cond as_is (holds (shape (first vs))) (not (holds (shape (first vs)))))) ∷ [])) refl h d (λ ws. tt) s

  binary_like : (op : BinOp) (line : ℕ) (a b : Value) (v : View) (k : List Work) → Held ps (length v.ls) v.hd v.gd v.hc v.gc → floor k ≤ length v.ls → Sound k
      → Moves Q ps (binary op line a b (one v) k) (binary op line a b (two v) k)
  binary_like Add line a b v k h d s = arithmetic_like of_add (integer_in (shape a)) (integer_in (shape b)) line a b v k h d s
  binary_like Sub line a b v k h d s = arithmetic_like of_sub (integer_in (shape a)) (integer_in (shape b)) line a b v k h d s
  binary_like Mul line a b v k h d s = arithmetic_like of_mul (integer_in (shape a)) (integer_in (shape b)) line a b v k h d s
  binary_like Mod line a b v k h d s = arithmetic_like of_mod (integer_in (shape a)) (integer_in (shape b)) line a b v k h d s
  binary_like Idiv line a b v k h d s = arithmetic_like of_idiv (integer_in (shape a)) (integer_in (shape b)) line a b v k h d s
  binary_like Band line a b v k h d s = arithmetic_like of_band (integer_in (shape a)) (integer_in (shape b)) line a b v k h d s
  binary_like Bor line a b v k h d s = arithmetic_like of_bor (integer_in (shape a)) (integer_in (shape b)) line a b v k h d s
  binary_like Bxor line a b v k h d s = arithmetic_like of_bxor (integer_in (shape a)) (integer_in (shape b)) line a b v k h d s
  binary_like Shl line a b v k h d s = arithmetic_like of_shl (integer_in (shape a)) (integer_in (shape b)) line a b v k h d s
  binary_like Shr line a b v k h d s = arithmetic_like of_shr (integer_in (shape a)) (integer_in (shape b)) line a b v k h d s
  binary_like Concat line a b v k h d s = operates_like concat (a ∷ b ∷ []) line v k h d s
  binary_like Eq line a b v k h d s = truth_like equal true a b line v k h d s
  binary_like Ne line a b v k h d s = truth_like equal false a b line v k h d s
  binary_like Lt line a b v k h d s = truth_like less true a b line v k h d s
  binary_like Le line a b v k h d s = truth_like less_equal true a b line v k h d s
  binary_like Gt line a b v k h d s = truth_like less true b a line v k h d s
  binary_like Ge line a b v k h d s = truth_like less_equal true b a line v k h d s

  unary_like : (op : UnOp) (line : ℕ) (a : Value) (v : View) (k : List Work) → Held ps (length v.ls) v.hd v.gd v.hc v.gc → floor k ≤ length v.ls → Sound k
      → Moves Q ps (unary op line a (one v) k) (unary op line a (two v) k)
  unary_like Neg line a v k h d s = operates_like (arithmetic of_unm) (a ∷ a ∷ []) line v k h d s
  unary_like BitNot line a v k h d s = operates_like (arithmetic of_bnot) (a ∷ a ∷ []) line v k h d s
  unary_like Not line a v k h d s = goes v k (give (known (boolean (not (holds (shape a)))) ∷ [])) h d tt s
  unary_like Len line a v k h d s = operates_like length' (a ∷ []) line v k h d s

  constructs_like : (line : ℕ) (t : Value) (items : ℕ) (fs : Fields) (v : View) (k : List Work) → Held ps (length v.ls) v.hd v.gd v.hc v.gc → floor k ≤ length v.ls → Sound k
      → Moves Q ps (constructs line t items fs (one v) k) (constructs line t items fs (two v) k)
  constructs_like line t items EndFields v k h d s = goes v k (give (t ∷ [])) h d tt s
  constructs_like line t items (MoreFields (Item e) fs) v k h d s = goes v (item_of line t items fs ∷ k) (evaluate e) h d tt (tt, s)
  constructs_like line t items (MoreFields (Keyed field_line key e) fs) v k h d s = goes v (keyed_value line t items field_line e fs ∷ k) (evaluate key) h d tt (tt, s)

  item_like : (line : ℕ) (t : Value) (items : ℕ) (fs : Fields) (vs : List Value) (v : View) (k : List Work) → Held ps (length v.ls) v.hd v.gd v.hc v.gc → floor k ≤ length v.ls → Sound k
      → Moves Q ps (stores_item line t items fs vs (one v) k) (stores_item line t items fs vs (two v) k)
  item_like line t items EndFields vs v k h d s = quick_like v line k (fills_table t items vs) (fills_table t items vs) (λ ws. give (t ∷ [])) refl h d (λ ws. tt) s
  item_like line t items (MoreFields f fs) vs v k h d s =
      quick_like v line k (fills_table t items (first vs ∷ [])) (fills_table t items (first vs ∷ [])) (λ ws. construct line t (items + 1) (MoreFields f fs)) refl h d (λ ws. tt) s

  -- blocks and declarations

  begins_like : (block : Block) (v : View) (k : List Work) → Held ps (length v.ls) v.hd v.gd v.hc v.gc → floor k ≤ length v.ls → bound k ≡ None → Sound k
      → Moves Q ps (begins block (one v) k) (begins block (two v) k)
  begins_like block v k h d n s = goes v k (run (point_of block (length v.ls))) h d (point_ok block (length v.ls) (bound k) (floor k) (under_none (bound k) n (length v.ls)) d) s

  declares_like : (line : ℕ) (names : List Declared) (vs : List Value) (v : View) (k : List Work) → Held ps (length v.ls) v.hd v.gd v.hc v.gc → floor k ≤ length v.ls → bound k ≡ None → Sound k
      → Moves Q ps (declares line names vs (one v) k) (declares line names vs (two v) k)
  declares_like line names vs v k h d n s =
      let m = length v.ls in
      let w = record v { ls = v.ls ++ fitted (length names) vs } in
      let a = length-append v.ls (fitted (length names) vs) in
      let b = length_fitted (length names) vs in
      keep ps (at (capture line (numbers m (length names)) (marks_closed m names complete)) (one w) k) (at (marks_closed m names complete) (two w) k)
      (early w k line (numbers m (length names)) (marks_closed m names complete)
      (held_more ps m (length w.ls) v.hd v.gd v.hc v.gc h (λ x c z. let l = h.scope x c z in omega (arith, l, a))) (omega (arith, d, a))
      (λ x z. let l = numbers_in m (length names) x z in omega (arith, l, a, b))
      (λ hd. marks_req m names complete (bound k) (floor k) hd v.hc (low_none (bound k) n hd)) s)

  declares_function_like : (body : Body) (v : View) (k : List Work) → Held ps (length v.ls) v.hd v.gd v.hc v.gc → floor k ≤ length v.ls → bound k ≡ None → Sound k
      → Moves Q ps (declares_function body (one v) k) (declares_function body (two v) k)
  declares_function_like body v k h d n s =
      let m = length v.ls in
      let line = line_of_body body in
      let w = record v { ls = v.ls ++ known nil ∷ [] } in
      let next = capture line (captured_locals (upvalues_of body)) (make body) in
      let a = length-append v.ls (known nil ∷ []) in
      keep ps (at (capture line (m ∷ []) next) (one w) (function_to m ∷ k)) (at next (two w) (function_to m ∷ k))
      (early w (function_to m ∷ k) line (m ∷ []) next
      (held_more ps m (length w.ls) v.hd v.gd v.hc v.gc h (λ x c z. let l = h.scope x c z in omega (arith, l, a))) (omega (arith, d, a))
      (λ x z. ⊎_elim (λ e. omega (arith, e, a)) (λ e. absurd e) z)
      (λ hd y z. inl z) (n, s))

  -- assignments

  aims_name_like : (line : ℕ) (name : List ℕ) (place : Place) (aimed : List Target) (ts es : Exps) (v : View) (k : List Work)
      → Held ps (length v.ls) v.hd v.gd v.hc v.gc → floor k ≤ length v.ls → bound k ≡ None → Sound k
      → Moves Q ps (aims_at_name line name place aimed ts es (one v) k) (aims_at_name line name place aimed ts es (two v) k)
  aims_name_like line name Unset aimed ts es v k h d n s = tt
  aims_name_like line name (LocalPlace m) aimed ts es v k h d n s = goes v k (aim (aimed ++ to_local m ∷ []) ts es) h d n s
  aims_name_like line name (Upvalue u) aimed ts es v k h d n s = goes v k (aim (aimed ++ to_upvalue line u ∷ []) ts es) h d n s
  aims_name_like line name (GlobalIn m) aimed ts es v k h d n s = goes v k (aim (aimed ++ to_field line (nth v.ls m) (known (string name)) ∷ []) ts es) h d n s
  aims_name_like line name (GlobalOf u) aimed ts es v k h d n s =
      quick_like v line k (reads_upvalue u) (reads_upvalue u) (λ vs. aim (aimed ++ to_field line (first vs) (known (string name)) ∷ []) ts es) refl h d (λ ws. n) s

  aims_like : (aimed : List Target) (ts es : Exps) (v : View) (k : List Work) → Held ps (length v.ls) v.hd v.gd v.hc v.gc → floor k ≤ length v.ls → bound k ≡ None → Sound k
      → Moves Q ps (aims aimed ts es (one v) k) (aims aimed ts es (two v) k)
  aims_like aimed EndExps es v k h d n s = goes v k (collect (for_assignment aimed) [] es) h d n s
  aims_like aimed (MoreExps (Var line name) ts) es v k h d n s = aims_name_like line name.text name.place aimed ts es v k h d n s
  aims_like aimed (MoreExps (Index line object key) ts) es v k h d n s = goes v (aimed_key line key aimed ts es ∷ k) (evaluate object) h d tt (n, s)
  aims_like aimed (MoreExps e ts) es v k h d n s = tt

  stores_at_like : (t : Target) (val : Value) (more : List (Target × Value)) (v : View) (k : List Work) → Held ps (length v.ls) v.hd v.gd v.hc v.gc → floor k ≤ length v.ls → bound k ≡ None → Sound k
      → Moves Q ps (stores_at t val more (one v) k) (stores_at t val more (two v) k)
  stores_at_like (to_local m) val more v k h d n s =
      let a = write_more m val v.ls in
      goes (record v { ls = write m val v.ls }) k (store more)
      (held_more ps (length v.ls) (length (write m val v.ls)) v.hd v.gd v.hc v.gc h (λ x c z. let l = h.scope x c z in omega (arith, l, a))) (omega (arith, d, a)) n s
  stores_at_like (to_upvalue line u) val more v k h d n s = quick_like v line k (writes_upvalue u val) (writes_upvalue u val) (λ ws. store more) refl h d (λ ws. n) s
  stores_at_like (to_field line t key) val more v k h d n s = asks_like v line k (operates store_op (t ∷ key ∷ val ∷ [])) (λ ws. store more) refl h d (λ ws. n) s

  stores_like : (pairs : List (Target × Value)) (v : View) (k : List Work) → Held ps (length v.ls) v.hd v.gd v.hc v.gc → floor k ≤ length v.ls → bound k ≡ None → Sound k
      → Moves Q ps (stores pairs (one v) k) (stores pairs (two v) k)
  stores_like [] v k h d n s = goes v k complete h d (low_none (bound k) n v.hd) s
  stores_like (x ∷ more) v k h d n s = stores_at_like x.0 x.1 more v k h d n s

  -- numeric `for`

  begins_round_like : (line : ℕ) (block : Block) (level : ℕ) (from rounds by_step : ℤ) (v : View) (k : List Work)
      → Held ps (length v.ls) v.hd v.gd v.hc v.gc → level ≤ length v.ls → Low (Some (level + 4)) v.hd → bound k ≡ None → floor k ≤ level → Sound k
      → Moves Q ps (begins_round line block level from rounds by_step (one v) k) (begins_round line block level from rounds by_step (two v) k)
  begins_round_like line block level from rounds by_step v k h size low n fl s =
      let w = record v { ls = take level v.ls ++ hidden from rounds by_step ++ known (integer from) ∷ [] } in
      let e = round_size level from rounds by_step v.ls size in
      keep ps (at (capture line ((level + 3) ∷ []) (run (point_of block (level + 3)))) (one w) (counting line block level ∷ k)) (at (run (point_of block (level + 3))) (two w) (counting line block level ∷ k))
      (early w (counting line block level ∷ k) line ((level + 3) ∷ []) (run (point_of block (level + 3)))
      (held_more ps (length v.ls) (length w.ls) v.hd v.gd v.hc v.gc h (λ x c z. let l = low x c z in omega (arith, l, e))) (omega (arith, fl, e))
      (λ x z. ⊎_elim (λ q. omega (arith, q, e)) (λ q. absurd q) z)
      (λ hd. point_ok block (level + 3) (Some (level + 4)) (floor k) (omega arith) (omega (arith, fl))) ((n, fl), s))

  begins_counting_like : (line : ℕ) (block : Block) (from limit by_step : ℤ) (v : View) (k : List Work) → Held ps (length v.ls) v.hd v.gd v.hc v.gc → floor k ≤ length v.ls → bound k ≡ None → Sound k
      → Moves Q ps (begins_counting line block from limit by_step (one v) k) (begins_counting line block from limit by_step (two v) k)
  begins_counting_like line block from limit by_step v k h d n s =
      either (same_integer by_step (pos 0)) _ _ _ _ (goes v k (raise line (codes "'for' step is zero")) h d tt s)
      (either (goes_on_from from limit by_step) _ _ _ _
      (begins_round_like line block (length v.ls) from (rounds_to_come from limit by_step) by_step v k h (omega arith) (λ x c z. let l = h.scope x c z in omega (arith, l)) n d s)
      (goes v k complete h d (low_none (bound k) n v.hd) s))

  starts_counting_like : (line : ℕ) (block : Block) (from limit by_step : Option ℤ) (v : View) (k : List Work) → Held ps (length v.ls) v.hd v.gd v.hc v.gc → floor k ≤ length v.ls → bound k ≡ None → Sound k
      → Moves Q ps (starts_counting line block from limit by_step (one v) k) (starts_counting line block from limit by_step (two v) k)
  starts_counting_like line block from None by_step v k h d n s = goes v k (raise line (codes "'for' limit must be a number")) h d tt s
  starts_counting_like line block from (Some limit) None v k h d n s = goes v k (raise line (codes "'for' step must be a number")) h d tt s
  starts_counting_like line block None (Some limit) (Some by_step) v k h d n s = goes v k (raise line (codes "'for' initial value must be a number")) h d tt s
  starts_counting_like line block (Some from) (Some limit) (Some by_step) v k h d n s = begins_counting_like line block from limit by_step v k h d n s

  counts_on_like : (line : ℕ) (block : Block) (level : ℕ) (o : Option ℤ) (v : View) (k : List Work)
      → Held ps (length v.ls) v.hd v.gd v.hc v.gc → floor k ≤ length v.ls → Low (Some (level + 4)) v.hd → bound k ≡ None → floor k ≤ level → Sound k
      → Moves Q ps (counts_on line block level o (one v) k) (counts_on line block level o (two v) k)
  counts_on_like line block level (Some (pos zero)) v k h d low n fl s = goes v k (leave_scope level line (known nil) complete) h d (fl, under_none (bound k) n level) s
  counts_on_like line block level (Some (pos (suc i))) v k h d low n fl s = goes v (counting line block level ∷ k) (pay line count_round) h d low ((n, fl), s)
  counts_on_like line block level (Some (negsuc i)) v k h d low n fl s = goes v (counting line block level ∷ k) (pay line count_round) h d low ((n, fl), s)
  counts_on_like line block level None v k h d low n fl s = goes v (counting line block level ∷ k) (pay line count_round) h d low ((n, fl), s)

  counts_round_like : (line : ℕ) (block : Block) (level : ℕ) (v : View) (k : List Work)
      → Held ps (length v.ls) v.hd v.gd v.hc v.gc → Low (Some (level + 4)) v.hd → bound k ≡ None → floor k ≤ level → Sound k
      → (o p q : Option ℤ) → hidden_integer level (one v) ≡ o
      → Moves Q ps (counts_round line block level o p q (one v) k) (counts_round line block level o p q (two v) k)
  counts_round_like line block level v k h low n fl s (Some from) (Some rounds) (Some by_step) e =
      begins_round_like line block level (add from by_step) (sub rounds (pos 1)) by_step v k h (let l = integer_in_scope v.ls level from e in omega (arith, l)) low n fl s
  counts_round_like line block level v k h low n fl s None p q e = tt
  counts_round_like line block level v k h low n fl s (Some from) None q e = tt
  counts_round_like line block level v k h low n fl s (Some from) (Some rounds) None e = tt

  -- generic `for`

  iterates_like : (line : ℕ) (names : List Name) (block : Block) (vs : List Value) (v : View) (k : List Work) → Held ps (length v.ls) v.hd v.gd v.hc v.gc → floor k ≤ length v.ls → bound k ≡ None → Sound k
      → Moves Q ps (iterates line names block vs (one v) k) (iterates line names block vs (two v) k)
  iterates_like line names block vs v k h d n s =
      let m = length v.ls in
      let a = length-append v.ls (fitted 4 vs) in
      let b = length_fitted 4 vs in
      goes (record v { ls = v.ls ++ fitted 4 vs }) (iterating line names block m ∷ k) (mark line (codes "?") (m + 3) complete)
      (held_more ps m (length (v.ls ++ fitted 4 vs)) v.hd v.gd v.hc v.gc h (λ x c z. let l = h.scope x c z in omega (arith, l, a))) (omega (arith, a, b))
      (λ x c z. let l = h.scope x c z in omega (arith, l)) ((n, d), s)

  tests_round_like : (line : ℕ) (names : List Name) (block : Block) (level : ℕ) (vs : List Value) (v : View) (k : List Work)
      → Held ps (length v.ls) v.hd v.gd v.hc v.gc → level + 4 ≤ length v.ls → Low (Some (level + 4)) v.hd → bound k ≡ None → floor k ≤ level → Sound k
      → Moves Q ps (tests_round line names block level vs (one v) k) (tests_round line names block level vs (two v) k)
  tests_round_like line names block level vs v k h d low n fl s =
      either (is_nil (first vs)) _ _ _ _ (goes v k (leave_scope level line (known nil) complete) h (omega (arith, d, fl)) (fl, under_none (bound k) n level) s)
      (goes v (iterating line names block level ∷ k) (pay line (enter_round vs)) h d low ((n, fl), s))

  enters_round_like : (line : ℕ) (names : List Name) (block : Block) (level : ℕ) (vs : List Value) (v : View) (k : List Work)
      → Held ps (length v.ls) v.hd v.gd v.hc v.gc → level + 4 ≤ length v.ls → Low (Some (level + 4)) v.hd → bound k ≡ None → floor k ≤ level → Sound k
      → Moves Q ps (enters_round line names block level vs (one v) k) (enters_round line names block level vs (two v) k)
  enters_round_like line names block level vs v k h d low n fl s =
      let w = record v { ls = write (level + 2) (first vs) (take (level + 4) v.ls) ++ fitted (length names) vs } in
      let e = enter_size level (first vs) v.ls (fitted (length names) vs) d in
      let b = length_fitted (length names) vs in
      let ns = numbers (level + 4) (length names) in
      keep ps (at (capture line ns (run (point_of block (level + 4)))) (one w) (iterating line names block level ∷ k)) (at (run (point_of block (level + 4))) (two w) (iterating line names block level ∷ k))
      (early w (iterating line names block level ∷ k) line ns (run (point_of block (level + 4)))
      (held_more ps (length v.ls) (length w.ls) v.hd v.gd v.hc v.gc h (λ x c z. let l = low x c z in omega (arith, l, e))) (omega (arith, e))
      (λ x z. let l = numbers_in (level + 4) (length names) x z in omega (arith, l, e, b))
      (λ hd. point_ok block (level + 4) (Some (level + 4)) (level + 4) (omega arith) (omega arith)) ((n, fl), s))

  -- `return`, statements and blocks

  returns_like : (line : ℕ) (es : Exps) (v : View) (k : List Work) → Held ps (length v.ls) v.hd v.gd v.hc v.gc → floor k ≤ length v.ls → Sound k
      → Moves Q ps (begins_return line es (one v) k) (begins_return line es (two v) k)
  returns_like line (MoreExps (Call call_line callee es) EndExps) v k h d s =
      either (has_none v.pd) _ _ _ _ (goes v (callee_of call_line true es ∷ k) (evaluate callee) h d tt (tt, s)) (goes v k (collect (for_return line) [] (MoreExps (Call call_line callee es) EndExps)) h d tt s)
  returns_like line (MoreExps (Method call_line object name es) EndExps) v k h d s =
      either (has_none v.pd) _ _ _ _ (goes v (method_of call_line true name.text es ∷ k) (evaluate object) h d tt (tt, s)) (goes v k (collect (for_return line) [] (MoreExps (Method call_line object name es) EndExps)) h d tt s)
  returns_like line es v k h d s = goes v k (collect (for_return line) [] es) h d tt s

  breaks_like : (line : ℕ) (v : View) (k : List Work) → Held ps (length v.ls) v.hd v.gd v.hc v.gc → floor k ≤ length v.ls → Sound k
      → Moves Q ps (breaks line (one v) k) (breaks line (two v) k)
  breaks_like line v [] h d s = tt
  breaks_like line v (looping loop_line test body level ∷ k) h d s = goes v k (leave_scope level line (known nil) complete) h d (s.0.1, under_none (bound k) s.0.0 level) s.1
  breaks_like line v (repeating loop_line test body level ∷ k) h d s = goes v k (leave_scope level line (known nil) complete) h d (s.0.1, under_none (bound k) s.0.0 level) s.1
  breaks_like line v (counting loop_line body level ∷ k) h d s = goes v k (leave_scope level line (known nil) complete) h d (s.0.1, under_none (bound k) s.0.0 level) s.1
  breaks_like line v (iterating loop_line names body level ∷ k) h d s =
      goes v k (leave_scope level line (known nil) complete) h (let l = s.0.1 in omega (arith, d, l)) (s.0.1, under_none (bound k) s.0.0 level) s.1
  breaks_like line v (w ∷ k) h d s = breaks_like line v k h d s.1

  lands_like : (o p : Option Landing) (line : ℕ) (x y : Next Body State) (v : View) (k : List Work) → Held ps (length v.ls) v.hd v.gd v.hc v.gc → floor k ≤ length v.ls → Sound k
      → IsLanding (bound k) (floor k) o → IsLanding (bound k) (floor k) p → Moves Q ps x y
      → Moves Q ps (lands o p line x (one v) k) (lands o p line y (two v) k)
  lands_like (Some there) p line x y v k h d s a b m = goes v k (leave_scope there.level line (known nil) (run there.point)) h d a s
  lands_like None (Some there) line x y v k h d s a b m = goes v k (leave_scope there.level line (known nil) (pay line (run there.point))) h d b s
  lands_like None None line x y v k h d s a b m = m

  goto_like : (name : List ℕ) (line : ℕ) (v : View) (k : List Work) → Held ps (length v.ls) v.hd v.gd v.hc v.gc → floor k ≤ length v.ls → Sound k
      → Moves Q ps (goes_to name line (one v) k) (goes_to name line (two v) k)
  goto_like name line v [] h d s = tt
  goto_like name line v (in_block here p ∷ k) h d s =
      lands_like (ahead name here p.rest p p.labels) (behind name p p.labels) line (goes_to name line (one v) k) (goes_to name line (two v) k) v k h d s.1
      (ahead_ok (bound k) (floor k) name here p.rest p p.labels s.0.1 s.0.0 s.0.0.2) (behind_ok (bound k) (floor k) name p p.labels s.0.0 s.0.0.2) (goto_like name line v k h d s.1)
  goto_like name line v (iterating loop_line names body level ∷ k) h d s = goto_like name line v k h (let l = s.0.1 in omega (arith, d, l)) s.1
  goto_like name line v (w ∷ k) h d s = goto_like name line v k h d s.1

  executes_like : (x : Stat) (v : View) (k : List Work) → Held ps (length v.ls) v.hd v.gd v.hc v.gc → floor k ≤ length v.ls → bound k ≡ None → Sound k
      → Moves Q ps (executes x (one v) k) (executes x (two v) k)
  executes_like (Empty line) v k h d n s = goes v k complete h d (low_none (bound k) n v.hd) s
  executes_like (Local line names es) v k h d n s = goes v k (collect (for_declaration line names) [] es) h d n s
  executes_like (LocalFunction line name body) v k h d n s = declares_function_like body v k h d n s
  executes_like (Assign line targets es) v k h d n s = goes v k (aim [] targets es) h d n s
  executes_like (CallStat line e) v k h d n s = goes v (dropped ∷ k) (evaluate e) h d tt (n, s)
  executes_like (Do line block) v k h d n s = begins_like block v k h d n s
  executes_like (While line test block) v k h d n s = goes v (while_test line test block ∷ k) (evaluate test) h d tt (n, s)
  executes_like (Repeat line block test) v k h d n s =
      goes v (repeating line test block (length v.ls) ∷ k) (run (repeat_point block test (length v.ls))) h d (repeat_ok block test (length v.ls) (floor k) d) ((n, d), s)
  executes_like (If line some) v k h d n s = goes v k (choose some None) h d n s
  executes_like (IfElse line some block) v k h d n s = goes v k (choose some (Some block)) h d n s
  executes_like (NumFor line name from limit block) v k h d n s = goes v k (collect (for_counting line block) [] (MoreExps from (MoreExps limit EndExps))) h d n s
  executes_like (NumForStep line name from limit by_step block) v k h d n s = goes v k (collect (for_counting line block) [] (MoreExps from (MoreExps limit (MoreExps by_step EndExps)))) h d n s
  executes_like (GenFor line names es block) v k h d n s = goes v k (collect (for_iterating line names block) [] es) h d n s
  executes_like (Label line name) v k h d n s = goes v k complete h d (low_none (bound k) n v.hd) s
  executes_like (Goto line name) v k h d n s = goto_like name.text line v k h d s
  executes_like (Break line) v k h d n s = breaks_like line v k h d s

  ends_like : (ending : End) (level : ℕ) (v : View) (k : List Work) → Held ps (length v.ls) v.hd v.gd v.hc v.gc → floor k ≤ length v.ls → Under (bound k) level → floor k ≤ level → IsEnd (bound k) ending → Sound k
      → Moves Q ps (ends ending level (one v) k) (ends ending level (two v) k)
  ends_like (falls_off line) level v k h d u fl e s = goes v k (leave_scope level line (known nil) complete) h d (fl, u) s
  ends_like (returns_list line es) level v k h d u fl e s = returns_like line es v k h d s
  ends_like (until line test) level v k h d u fl e s = goes v (until_test line level ∷ k) (evaluate test) h d tt ((e, fl), s)

  runs_like : (ss : Stats) (p : Point) (v : View) (k : List Work) → Held ps (length v.ls) v.hd v.gd v.hc v.gc → floor k ≤ length v.ls → IsPoint (bound k) (floor k) p → Sound k
      → Moves Q ps (runs_on ss p (one v) k) (runs_on ss p (two v) k)
  runs_like EndStats p v k h d r s = ends_like p.ending p.level v k h d r.0 r.1 r.3 s
  runs_like (MoreStats (Label line name) ss) p v k h d r s =
      goes v k (run (record p { rest = ss; labels = passed_by name (length v.ls) ss ∷ p.labels })) h d (r.0, r.1, (d, r.2), r.3) s
  runs_like (MoreStats x ss) p v k h d r s = executes_like x v (in_block (length v.ls) (record p { rest = ss }) ∷ k) h d refl (((r.0, r.1, r.2, r.3), d), s)

  chooses_like : (arms : Arms) (otherwise : Option Block) (v : View) (k : List Work) → Held ps (length v.ls) v.hd v.gd v.hc v.gc → floor k ≤ length v.ls → bound k ≡ None → Sound k
      → Moves Q ps (chooses arms otherwise (one v) k) (chooses arms otherwise (two v) k)
  chooses_like (MoreArms test block more) otherwise v k h d n s = goes v (if_test block more otherwise ∷ k) (evaluate test) h d tt (n, s)
  chooses_like EndArms (Some block) v k h d n s = begins_like block v k h d n s
  chooses_like EndArms None v k h d n s = goes v k complete h d (low_none (bound k) n v.hd) s

  -- lists, values that are given, and what is done

  uses_like : (purpose : Purpose) (vs : List Value) (v : View) (k : List Work) → Held ps (length v.ls) v.hd v.gd v.hc v.gc → floor k ≤ length v.ls → Serves purpose (bound k) → Sound k
      → Moves Q ps (uses_list purpose vs (one v) k) (uses_list purpose vs (two v) k)
  uses_like (for_call line is_last) [] v k h d n s = tt
  uses_like (for_call line is_last) (f ∷ vs) v k h d n s =
      either is_last _ _ _ _ (asks_like v line [] (calls_last f vs) (λ ws. over) refl h (omega arith) (λ ws. tt) tt) (asks_like v line k (calls f vs) give refl h d (λ ws. tt) s)
  uses_like (for_return line) vs v k h d n s = goes v [] (leave_scope 0 line (known nil) (finish line (returns vs))) h (omega arith) (omega arith, tt) tt
  uses_like (for_declaration line names) vs v k h d n s = declares_like line names vs v k h d n s
  uses_like (for_assignment aimed) vs v k h d n s = goes v k (store (reverse (paired aimed vs))) h d n s
  uses_like (for_counting line block) vs v k h d n s =
      starts_counting_like line block (integer_in (shape (nth vs 0))) (integer_in (shape (nth vs 1))) (integer_in (shape (step_of vs))) v k h d n s
  uses_like (for_iterating line names block) vs v k h d n s = iterates_like line names block vs v k h d n s

  collects_like : (purpose : Purpose) (have : List Value) (es : Exps) (v : View) (k : List Work) → Held ps (length v.ls) v.hd v.gd v.hc v.gc → floor k ≤ length v.ls → Serves purpose (bound k) → Sound k
      → Moves Q ps (collects purpose have es (one v) k) (collects purpose have es (two v) k)
  collects_like purpose have EndExps v k h d n s = uses_like purpose have v k h d n s
  collects_like purpose have (MoreExps e es) v k h d n s = goes v (listed purpose have es ∷ k) (evaluate e) h d tt (n, s)

  given_like : (vs : List Value) (v : View) (w : Work) (k : List Work) → Held ps (length v.ls) v.hd v.gd v.hc v.gc → floor (w ∷ k) ≤ length v.ls → Sound (w ∷ k)
      → Moves Q ps (given vs (one v) w k) (given vs (two v) w k)
  given_like vs v (key_of line key) k h d s = goes v (object_of line (first vs) ∷ k) (evaluate key) h d tt (tt, s.1)
  given_like vs v (object_of line o) k h d s = asks_like v line k (operates index (o ∷ first vs ∷ [])) give_first refl h d (λ ws. tt) s.1
  given_like vs v (field_of line key) k h d s = asks_like v line k (operates index (first vs ∷ key ∷ [])) give_first refl h d (λ ws. tt) s.1
  given_like vs v (operand_of line op) k h d s = unary_like op line (first vs) v k h d s.1
  given_like vs v (right_of line op right_side) k h d s = goes v (left_of line op (first vs) ∷ k) (evaluate right_side) h d tt (tt, s.1)
  given_like vs v (left_of line op a) k h d s = binary_like op line a (first vs) v k h d s.1
  given_like vs v (and_right right_side) k h d s =
      either (holds (shape (first vs))) _ _ _ _ (goes v (first_only ∷ k) (evaluate right_side) h d tt (tt, s.1)) (goes v k (give (first vs ∷ [])) h d tt s.1)
  given_like vs v (or_right right_side) k h d s =
      either (holds (shape (first vs))) _ _ _ _ (goes v k (give (first vs ∷ [])) h d tt s.1) (goes v (first_only ∷ k) (evaluate right_side) h d tt (tt, s.1))
  given_like vs v first_only k h d s = goes v k (give (first vs ∷ [])) h d tt s.1
  given_like vs v (callee_of line is_last es) k h d s = goes v k (collect (for_call line is_last) (first vs ∷ []) es) h d tt s.1
  given_like vs v (method_of line is_last name es) k h d s =
      asks_like v line k (operates index (first vs ∷ known (string name) ∷ [])) (λ ws. collect (for_call line is_last) (first ws ∷ first vs ∷ []) es) refl h d (λ ws. tt) s.1
  given_like vs v (listed purpose have es) k h d s = goes v k (collect purpose (added (takes_all purpose) es have vs) es) h d s.0 s.1
  given_like vs v (item_of line t items fs) k h d s = item_like line t items fs vs v k h d s.1
  given_like vs v (keyed_value line t items field_line e fs) k h d s = goes v (keyed_store line t items field_line (first vs) fs ∷ k) (evaluate e) h d tt (tt, s.1)
  given_like vs v (keyed_store line t items field_line key fs) k h d s =
      asks_like v field_line k (operates store_op (t ∷ key ∷ first vs ∷ [])) (λ ws. construct line t items fs) refl h d (λ ws. tt) s.1
  given_like vs v (aimed_key line key aimed ts es) k h d s = goes v (aimed_field line (first vs) aimed ts es ∷ k) (evaluate key) h d tt (s.0, s.1)
  given_like vs v (aimed_field line t aimed ts es) k h d s = goes v k (aim (aimed ++ to_field line t (first vs) ∷ []) ts es) h d s.0 s.1
  given_like vs v (function_to m) k h d s =
      let a = write_more m (first vs) v.ls in
      goes (record v { ls = write m (first vs) v.ls }) k complete
      (held_more ps (length v.ls) (length (write m (first vs) v.ls)) v.hd v.gd v.hc v.gc h (λ x c z. let l = h.scope x c z in omega (arith, l, a))) (omega (arith, d, a)) (low_none (bound k) s.0 v.hd) s.1
  given_like vs v dropped k h d s = goes v k complete h d (low_none (bound k) s.0 v.hd) s.1
  given_like vs v (if_test block more otherwise) k h d s =
      either (holds (shape (first vs))) _ _ _ _ (begins_like block v k h d s.0 s.1) (goes v k (choose more otherwise) h d s.0 s.1)
  given_like vs v (while_test line test block) k h d s =
      either (holds (shape (first vs))) _ _ _ _ (begins_like block v (looping line test block (length v.ls) ∷ k) h d refl ((s.0, d), s.1)) (goes v k complete h d (low_none (bound k) s.0 v.hd) s.1)
  given_like vs v (until_test line level) k h d s = goes v k (leave_scope level line (known nil) (decide (holds (shape (first vs))))) h d (s.0.1, s.0.0) s.1
  given_like vs v w k h d s = tt

  completes_like : (v : View) (w : Work) (k : List Work) → Held ps (length v.ls) v.hd v.gd v.hc v.gc → floor (w ∷ k) ≤ length v.ls → Low (bound (w ∷ k)) v.hd → Sound (w ∷ k)
      → Moves Q ps (completes (one v) w k) (completes (two v) w k)
  completes_like v (in_block here p) k h d r s = goes v k (run p) h d s.0.0 s.1
  completes_like v (looping line test block level) k h d r s = goes v (while_test line test block ∷ k) (pay line (evaluate test)) h d tt (s.0.0, s.1)
  completes_like v (counting line block level) k h d r s = counts_on_like line block level (hidden_integer (level + 1) (one v)) v k h d r s.0.0 s.0.1 s.1
  completes_like v (iterating line names block level) k h d r s =
      asks_like v line (iterating line names block level ∷ k) (calls (nth v.ls level) (nth v.ls (level + 1) ∷ nth v.ls (level + 2) ∷ [])) test_round refl h d (λ ws. r) s
  completes_like v (end_of_body line) k h d r s = goes v [] (finish line (returns [])) h (omega arith) tt tt
  completes_like v w k h d r s = tt

  decides_like : (truth : Bool) (v : View) (w : Work) (k : List Work) → Held ps (length v.ls) v.hd v.gd v.hc v.gc → floor (w ∷ k) ≤ length v.ls → Sound (w ∷ k)
      → Moves Q ps (decides truth (one v) w k) (decides truth (two v) w k)
  decides_like true v (repeating line test block level) k h d s = goes v k complete h d (low_none (bound k) s.0.0 v.hd) s.1
  decides_like false v (repeating line test block level) k h d s =
      goes v (repeating line test block level ∷ k) (pay line (run (repeat_point block test level))) h d (repeat_ok block test level (floor k) s.0.1) s
  decides_like truth v w k h d s = tt

  top_like : (v : View) (k : List Work) (f g : Work → List Work → Next Body State) → Held ps (length v.ls) v.hd v.gd v.hc v.gc → floor k ≤ length v.ls → Sound k
      → ((w : Work) (l : List Work) → k ≡ w ∷ l → floor (w ∷ l) ≤ length v.ls → Sound (w ∷ l) → Moves Q ps (f w l) (g w l)) → Moves Q ps (on_top k f) (on_top k g)
  top_like v [] f g h d s m = tt
  top_like v (w ∷ k) f g h d s m = m w k refl d s

  counts_in_like : (v : View) (w : Work) (k : List Work) → Held ps (length v.ls) v.hd v.gd v.hc v.gc → Low (bound (w ∷ k)) v.hd → Sound (w ∷ k)
      → Moves Q ps (counts_in (one v) w k) (counts_in (two v) w k)
  counts_in_like v (counting line block level) k h r s =
      counts_round_like line block level v k h r s.0.0 s.0.1 s.1 (hidden_integer level (one v)) (hidden_integer (level + 1) (one v)) (hidden_integer (level + 2) (one v)) refl
  counts_in_like v w k h r s = tt

  tests_in_like : (vs : List Value) (v : View) (w : Work) (k : List Work) → Held ps (length v.ls) v.hd v.gd v.hc v.gc → floor (w ∷ k) ≤ length v.ls → Low (bound (w ∷ k)) v.hd → Sound (w ∷ k)
      → Moves Q ps (tests_in vs (one v) w k) (tests_in vs (two v) w k)
  tests_in_like vs v (iterating line names block level) k h d r s = tests_round_like line names block level vs v k h d r s.0.0 s.0.1 s.1
  tests_in_like vs v w k h d r s = tt

  enters_in_like : (vs : List Value) (v : View) (w : Work) (k : List Work) → Held ps (length v.ls) v.hd v.gd v.hc v.gc → floor (w ∷ k) ≤ length v.ls → Low (bound (w ∷ k)) v.hd → Sound (w ∷ k)
      → Moves Q ps (enters_in vs (one v) w k) (enters_in vs (two v) w k)
  enters_in_like vs v (iterating line names block level) k h d r s = enters_round_like line names block level vs v k h d r s.0.0 s.0.1 s.1
  enters_in_like vs v w k h d r s = tt

  pub same_like : (v : View) (k : List Work) (control : Control) → Held ps (length v.ls) v.hd v.gd v.hc v.gc → floor k ≤ length v.ls → Req control (bound k) (floor k) v.hd v.hc → Sound k
      → Together Q ps (step (at control (one v) k)) (step (at control (two v) k))
  same_like v k (evaluate e) h d r s = inl (expressions_like e v k h d s)
  same_like v [] (give vs) h d r s = inl tt
  same_like v (w ∷ k) (give vs) h d r s = inl (given_like vs v w k h d s)
  same_like v k (collect purpose have es) h d r s = inl (collects_like purpose have es v k h d r s)
  same_like v k (construct line t items fs) h d r s = inl (constructs_like line t items fs v k h d s)
  same_like v k (aim aimed ts es) h d r s = inl (aims_like aimed ts es v k h d r s)
  same_like v k (store more) h d r s = inl (stores_like more v k h d r s)
  same_like v k (choose arms otherwise) h d r s = inl (chooses_like arms otherwise v k h d r s)
  same_like v k (run p) h d r s = inl (runs_like p.rest p v k h d r s)
  same_like v [] complete h d r s = inl tt
  same_like v (w ∷ k) complete h d r s = inl (completes_like v w k h d r s)
  same_like v [] (decide truth) h d r s = inl tt
  same_like v (w ∷ k) (decide truth) h d r s = inl (decides_like truth v w k h d s)
  same_like v [] count_round h d r s = inl tt
  same_like v (w ∷ k) count_round h d r s = inl (counts_in_like v w k h r s)
  same_like v [] (test_round vs) h d r s = inl tt
  same_like v (w ∷ k) (test_round vs) h d r s = inl (tests_in_like vs v w k h d r s)
  same_like v [] (enter_round vs) h d r s = inl tt
  same_like v (w ∷ k) (enter_round vs) h d r s = inl (enters_in_like vs v w k h d r s)
  same_like v k (capture line ns (make body)) h d r s = capture_like v k line ns body h d r s
  same_like v k (capture line ns next) h d r s = absurd r
  same_like v k (make body) h d r s = inl (make_like body v k h d r s)
  same_like v k (mark line name n next) h d r s = inl (mark_like v k line name n next h d r s)
  same_like v k (pay line next) h d r s = inl (quick_like v line k pays pays (λ ws. next) refl h d (λ ws. r) s)
  same_like v k (leave_scope level line e next) h d r s = inl (leave_like v k level line e next h d r s)
  same_like v k (raise line text) h d r s =
      inl (asks_like (record v { hd = held_below 0 v.hd; gd = gone_from 0 v.hd v.ls ++ v.gd; hc = held_below 0 v.hc; gc = gone_from 0 v.hc v.ls ++ v.gc }) line [] (raises text) (λ ws. over) refl
      (held_cut ps (length v.ls) (length v.ls) 0 v.hd v.gd v.hc v.gc v.ls h (λ m a b. a)) (omega arith) (λ ws. tt) tt)
  same_like v k (finish line l) h d r s = inl (quick_like v line [] (leaves l) (leaves l) (λ ws. over) refl h (omega arith) (λ ws. tt) tt)
  same_like v k over h d r s = inl tt

  pub steps_like : (s t : State) → Rel ps s t → Steps Q ps s t
  steps_like _ _ (same v k control h d r s) = inl (same_like v k control h d r s)
  steps_like _ _ (early v k line ns control h d scope r s) =
      inr (first_by (Behind (length ns)) Q (λ qs s t b. keep qs s t b.0) ps (captures line ns control (one v) k) (at control (two v) k) (early_like ps v k line ns control h d scope r s))

pub alike_steps : (n : ℕ) (ps : Cells) (s t : State) → Rel ps s t → Alike n ps s t
alike_steps zero ps s t r = tt
alike_steps (suc n) ps s t r = steps_like (Alike n) (λ qs u w z. alike_steps n qs u w z) ps s t r

pub starts_alike : (ps : Cells) (body : Body) (arguments : List Value) → AreCells ps → AreEven ps → Rel ps (start when_declared body arguments) (start when_captured body arguments)
starts_alike ps (BodyOf params vararg inner ups line) arguments are even =
    let v : View = record { ls = fitted (length params) arguments; vs = cond vararg (drop (length params) arguments) []; pd = []; hd = []; gd = []; hc = []; gc = [] } in
    let k = end_of_body (line_of_end inner) ∷ [] in
    let e = length_fitted (length params) arguments in
    early v k line (numbers 0 (length params)) (run (point_of inner 0))
    (record {
      cells = are;
      one_d = λ n c d x y. absurd x;
      one_c = λ n c d x y. absurd x;
      once = λ n m c x y. absurd x;
      scope = λ n c x. absurd x;
      both = λ n d x. absurd x;
      each = λ n c x. absurd x;
      mine = λ n c x. absurd x;
      gone = λ c w x. absurd x;
      settled = λ c d p off. even c d p;
    })
    (omega arith) (λ n z. let l = numbers_in 0 (length params) n z in omega (arith, l, e)) (λ hd. point_ok inner 0 None 0 tt (omega arith)) (tt, tt)
