-- The rows of instructions, by their texts.
use Rattle.std.proofs.Common.{ℕ, suc, List, [], ◌∷◌, ◌++◌, Option, Some, None, length, drop, Bool, true, false, cond}
use Rattle.std.specs.Prelude.{ℤ, codes}
use Rattle.int_core.specs.Value.{Value}
use Rattle.machine_core.specs.World.{Wait, leaving, World, Place, place_of}
use Rattle.machine_core.specs.Text.{Arg, read, arg, args_of, Own, Quick, read_upvalue, write_upvalue, make_table, make_function, fill_table, pay, Text, go_by, own, open_cell, quick, operate, call, tail_call, close, closable, raise, leave, trap, Given, results, thrown}
use Rattle.machine_core.specs.Moves.{on_own, open_register, outside, settle, enter, await, enter_tail, find_close, is_closable, begin_leaving, leave_frame, move_pc, Made, named, CallShape, not_entered, SettledShape, is_found, is_asked, is_fault, TopShape, go, asks, raised, spent, Row, stop, only, act, Outcome, trapped, ends, with_own, move, run}
use Rattle.machine_core.specs.FrameRows.{then, raises, after_call, When, at_once, by_asking, calls_row, prepares, after_leaving, expand_by}
use Rattle.machine_sound.specs.Sound.{Each}
use Rattle.machine_sound.proofs.Lists.{each_none, each_cons, each_append, each_drop}
use Rattle.prelude_stays.specs.Guards.{Guard, AllRead, QuickReads, Reads}
use Rattle.prelude_stays.specs.Kept.{Home, Apart, WaitOk, Keeps}
use Rattle.prelude_stays.proofs.Heaps.{does_ok}
use Rattle.prelude_stays.proofs.Own.{arg_apart, args_apart}
use Rattle.prelude_stays.proofs.Worlds.{MadeKeeps, made_bind, EndKeeps, TopIs, OnPlace, place_there, place_top, moving_keeps}
use Rattle.prelude_stays.proofs.Frames.{own_keeps, called_keeps}
use Rattle.prelude_stays.proofs.Outside.{MadeOn}
use Rattle.prelude_stays.proofs.Moves.{free_keeps}
use Rattle.prelude_stays.proofs.Quick.{own_goes, open_goes, quick_goes, settle_goes}
use Rattle.prelude_stays.proofs.Rows.{RowKeeps, stop_keeps, act_keeps, handed_keeps}

-- rows that end a text

pub raises_keep : {y : Home} (text : List ℕ) → RowKeeps y (raises text)
raises_keep text = act_keeps tt (λ n t. stop_keeps)

pub after_call_keeps : {y : Home} (s : CallShape) → RowKeeps y (after_call s)
after_call_keeps (not_entered text) = raises_keep text
after_call_keeps _ = stop_keeps

leaving_keeps : {y : Home} (given : Given) (top : TopShape) → RowKeeps y (after_leaving given top)
leaving_keeps (results slot) top = handed_keeps top
leaving_keeps (thrown x) top = stop_keeps

wait_ok : (e : ℕ) (env : List Value) (w : Wait Arg) → Each (Apart e) env → WaitOk e (named env w)
wait_ok e env (leaving x) v = arg_apart e env x v
wait_ok e env _ v = tt

-- a row from a world in which the text's frame is on top
abbrev pub Goes : Home → Guard → Row → Type 0
Goes y g r = (gs : List Guard) (env : List Value) (W : World) → Each (Apart y.table) env → Keeps y gs W → TopIs gs g W → EndKeeps y (run r env W)

pub on_goes : {A : Type 0} (y : Home) (g : Guard) (o : Option (Made A)) (env : List Value) (k : A → Row) → Each (Apart y.table) env → MadeOn y g o → ((told : A) → Goes y g (k told))
    → EndKeeps y (elim o as (λ _. Outcome) [ None ↦ trapped | Some d ↦ run (k d.told) (env ++ d.values) d.world ])
on_goes y g None env k v h f = tt
on_goes y g (Some d) env k v h f = f d.told h.0 (env ++ d.values) d.world (each_append (Apart y.table) env d.values v h.2) h.1 h.3

pub free_goes : (y : Home) (g : Guard) (r : Row) → RowKeeps y r → Goes y g r
free_goes y g r f gs env W v k t = f.goes gs env W v k

pub cond_goes : (y : Home) (g : Guard) (b : Bool) (p q : Row) → Goes y g p → Goes y g q → Goes y g (cond b p q)
cond_goes y g true p q h k = h
cond_goes y g false p q h k = k

-- rows that look at nothing that was read

blind : (y : Home) (o : Option (Made (Unit {0}))) (e : _) → MadeKeeps y o → EndKeeps y (elim o as (λ _. Outcome) [ None ↦ trapped | Some d ↦ ends e d.world ])
blind y None e h = tt
blind y (Some d) e h = (h.0, h.1)

pub raises_blind : (y : Home) (text : List ℕ) (gs : List Guard) (env : List Value) (W : World) → Keeps y gs W → EndKeeps y (run (raises text) env W)
raises_blind y text gs env W k = blind y (move (begin_leaving text) [] W) raised (free_keeps y gs W k (begin_leaving text) [] tt (each_none (Apart y.table)))

pub jump_blind : (y : Home) (z : ℤ) (gs : List Guard) (env : List Value) (W : World) → Keeps y gs W → EndKeeps y (run (expand_by at_once (go_by z)) env W)
jump_blind y z gs env W k = blind y (move (move_pc z) [] W) go (free_keeps y gs W k (move_pc z) [] tt (each_none (Apart y.table)))

call_blind : (y : Home) (s : CallShape) (gs : List Guard) (env : List Value) (W : World) → Keeps y gs W → EndKeeps y (run (after_call s) env W)
call_blind y (not_entered text) gs env W k = raises_blind y text gs env W k
call_blind y _ gs env W k = (gs, k)

-- a call of what was read, where the frame waits
pub enter_goes : (y : Home) (when : When) (f : Arg) (slot : ℕ) (wait : Wait Arg) (prepared : List Own) (gs : List Guard) (env : List Value) (W : World) → Keeps y gs W
    → ((p : Place) → OnPlace W p → Keeps y gs (with_own W p (named env wait) prepared env)) → Apart y.table (arg env f) → Each (Apart y.table) (drop slot env)
    → EndKeeps y (run (calls_row when f slot wait prepared) env W)
enter_goes y at_once f slot wait prepared gs env W k w a b = by (move (enter f slot wait prepared) env W)
    (made_bind y (place_of W) _ (λ p e. called_keeps y gs W k (with_own W p (named env wait) prepared env) (w p (place_there W p e)) (arg env f) (drop slot env) a b))
  where
    by : (o : Option (Made CallShape)) → MadeKeeps y o → EndKeeps y (elim o as (λ _. Outcome) [ None ↦ trapped | Some d ↦ run (after_call d.told) (env ++ d.values) d.world ])
    by None h = tt
    by (Some d) h = call_blind y d.told h.0 (env ++ d.values) d.world h.1
enter_goes y by_asking f slot wait prepared gs env W k w a b = blind y (move (await f slot wait prepared) env W) asks
    (made_bind y (place_of W) _ (λ p e.
    (gs, moving_keeps y gs (with_own W p (named env wait) prepared env) (arg env f ∷ drop slot env) (w p (place_there W p e)) (each_cons (Apart y.table) (arg env f) (drop slot env) a b), each_none (Apart y.table))))

-- what follows an operation that is settled
abbrev pub told_row : When → (n : ℕ) → Wait Arg → List Own → Text → SettledShape → Row
told_row when n wait prepared t told = elim told as (λ _. Row) [
  | is_found ↦ prepares prepared (only n (expand_by when t))
  | is_asked ↦ calls_row when (read n) (suc n) wait prepared
  | is_fault text ↦ prepares prepared (raises text)
]

module _ (y : Home) (g : Guard) (when : When) where
  calls_goes : (f : Arg) (slot : ℕ) (wait : Wait Arg) (prepared : List Own) → AllRead g prepared → Goes y g (calls_row when f slot wait prepared)
  calls_goes f slot wait prepared r gs env W v k t =
      enter_goes y when f slot wait prepared gs env W k
      (λ p o. own_keeps y gs W k p o g (t p.top.function (place_top W p o)) (named env wait) prepared env (wait_ok y.table env wait v) r v) (arg_apart y.table env f v) (each_drop (Apart y.table) slot env v)

  prepares_goes : (ms : List Own) (r : Row) → AllRead g ms → Goes y g r → Goes y g (prepares ms r)
  prepares_goes [] r a h gs env W v k t = h gs env W v k t
  prepares_goes (m ∷ ms) r a h gs env W v k t = on_goes y g (move (on_own m) env W) env (λ _. prepares ms r) v (own_goes y gs W k g t m env a.0 v) (λ _. prepares_goes ms r a.1 h)

  settled_row : (n : ℕ) (wait : Wait Arg) (prepared : List Own) (t : Text) → AllRead g prepared → Goes y g (expand_by when t) → (told : SettledShape) → Goes y g (told_row when n wait prepared t told)
  settled_row n wait prepared t a h is_found = prepares_goes prepared (only n (expand_by when t)) a (λ gs env W v k z. h gs (drop n env) W (each_drop (Apart y.table) n env v) k z)
  settled_row n wait prepared t a h is_asked = calls_goes (read n) (suc n) wait prepared a
  settled_row n wait prepared t a h (is_fault text) = prepares_goes prepared (raises text) a (free_goes y g (raises text) (raises_keep text))

  quick_text : (q : Quick) (r : Row) (gs : List Guard) (env : List Value) (W : World) → QuickReads g q → Each (Apart y.table) env → Keeps y gs W → TopIs gs g W → Goes y g r
      → EndKeeps y (run (act (outside q) (λ _ _. r)) env W)
  quick_text q r gs env W a v k t h = on_goes y g (move (outside q) env W) env (λ _. r) v (quick_goes y gs W k g t q env a v) (λ _. h)

  pub text_keeps : (t : Text) → Reads g t → Goes y g (expand_by when t)
  text_keeps (go_by z) r gs env W v k t = free_goes y g (then (move_pc z) (stop go)) (act_keeps tt (λ n s. stop_keeps)) gs env W v k t
  text_keeps (own m c) r gs env W v k t =
      on_goes y g (move (on_own m) env W) env (λ s. expand_by when (c (length env) s)) v (own_goes y gs W k g t m env r.0 v) (λ s. text_keeps (c (length env) s) (r.1 (length env) s))
  text_keeps (open_cell x u) r gs env W v k t = on_goes y g (move (open_register x) env W) env (λ _. expand_by when u) v (open_goes y gs W k g t x env) (λ _. text_keeps u r)
  text_keeps (quick (read_upvalue u) c) r gs env W v k t = quick_text (read_upvalue u) (expand_by when (c (length env))) gs env W r.0 v k t (text_keeps (c (length env)) (r.1 (length env)))
  text_keeps (quick (write_upvalue u x) c) r gs env W v k t = quick_text (write_upvalue u x) (expand_by when (c (length env))) gs env W r.0 v k t (text_keeps (c (length env)) (r.1 (length env)))
  text_keeps (quick make_table c) r gs env W v k t = quick_text make_table (expand_by when (c (length env))) gs env W r.0 v k t (text_keeps (c (length env)) (r.1 (length env)))
  text_keeps (quick (make_function n) c) r gs env W v k t = quick_text (make_function n) (expand_by when (c (length env))) gs env W r.0 v k t (text_keeps (c (length env)) (r.1 (length env)))
  text_keeps (quick (fill_table x last slot) c) r gs env W v k t = quick_text (fill_table x last slot) (expand_by when (c (length env))) gs env W r.0 v k t (text_keeps (c (length env)) (r.1 (length env)))
  text_keeps (quick pay c) r gs env W v k t =
      on_goes y g (move (outside pay) env W) env (λ paid. cond paid (expand_by when (c (length env))) (stop spent)) v (quick_goes y gs W k g t pay env tt v)
      (λ paid. cond_goes y g paid (expand_by when (c (length env))) (stop spent) (text_keeps (c (length env)) (r.1 (length env))) (free_goes y g (stop spent) stop_keeps))
  text_keeps (operate op xs wait prepared u) r gs env W v k t =
      on_goes y g (move (settle op xs) env W) env (λ s. told_row when (length env) wait prepared u s) v (settle_goes y gs W k g t op xs env (does_ok y W.heap k.heap op (args_of env xs) (args_apart y.table env xs v))) (settled_row (length env) wait prepared u r.0 (text_keeps u r.1))
  text_keeps (call f slot wait prepared) r gs env W v k t = calls_goes f slot wait prepared r gs env W v k t
  text_keeps (tail_call f slot) r gs env W v k t = free_goes y g (act (enter_tail f slot) (λ _ s. after_call s)) (act_keeps tt (λ n s. after_call_keeps s)) gs env W v k t
  text_keeps (close x e wait prepared) r gs env W v k t =
      on_goes y g (move (find_close x e) env W) env (λ _. calls_row when (read (length env)) (suc (length env)) wait prepared) v
      (gs, k, (free_keeps y gs W k (find_close x e) env tt v).2, t) (λ _. calls_goes (read (length env)) (suc (length env)) wait prepared r)
  text_keeps (closable x name u) r gs env W v k t =
      let refused = raises (codes "variable '" ++ name ++ codes "' got a non-closable value") in
      on_goes y g (move (is_closable x) env W) env (λ yes. cond yes (expand_by when u) refused) v (gs, k, each_none (Apart y.table), t)
      (λ yes. cond_goes y g yes (expand_by when u) refused (text_keeps u r) (free_goes y g refused (raises_keep _)))
  text_keeps (raise text) r gs env W v k t = free_goes y g (raises text) (raises_keep text) gs env W v k t
  text_keeps (leave given) r gs env W v k t = free_goes y g (act (leave_frame given) (λ _ top. after_leaving given top)) (act_keeps tt (λ n top. leaving_keeps given top)) gs env W v k t
  text_keeps trap r gs env W v k t = tt
