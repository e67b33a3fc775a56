-- What is asked of a text, so that both readings of it lead to the same: it names what it has read, waits where it calls, and goes on as its
-- wait says.
use Rattle.std.proofs.Common.{ℕ, suc, ◌+◌, ◌<◌, ◌≤◌, ◌≡◌, Bool, true, false, cond, List, [], ◌∷◌, ◌++◌, Option, Some, None, length, refl, sym, subst, ap, ◌∙◌, arith}
use Rattle.std.specs.Prelude.{codes, nat_le}
use Rattle.code_core.specs.Prototype.{Prototype}
use Rattle.int_core.specs.Value.{string, Value, known, nth, Shape, greatest_string}
use Rattle.machine_core.specs.World.{Cell, Wait, running, for_concat, leaving, Activation}
use Rattle.machine_core.specs.Text.{Arg, read, written, arg, Own, read_register, read_registers, read_list, read_constant, read_varargs, see, write_register, write_registers, write_list, write_nils, end_list, cut_from, close_cells, mark_pending, see_pending, take_pending, drop_pending, keep_results, keep_pending, reads, effect, done, Text, go_by, own, open_cell, quick, operate, call, tail_call, close, closable, raise, leave, trap}
use Rattle.machine_core.specs.InstructionRows.{rest_at, told_values}
use Rattle.int_core.specs.Ask.{values}
use Rattle.int_core.specs.Heap.{Heap}
use Rattle.int_core.specs.Operations.{of_concat, handler_of, asked, of_type, at_fault, is_text, Operation, concat, Settled, found, fault, concat_on, does, text_of}
use Rattle.machine_core.specs.RowFits.{IsWaiting}
use Rattle.machine_core.specs.Moves.{named, cells_after, cells_done}
use Rattle.list_laws.proofs.Values.{nth_old}

-- a value that is named is among the first ones read
abbrev pub Reach : ℕ → Arg → Type 0
Reach len (read n) = n < len
Reach len (written p) = Unit {0}

abbrev pub WaitReach : ℕ → Wait Arg → Type 0
WaitReach len (leaving x) = Reach len x
WaitReach len _ = Unit {0}

-- a move that reads nothing and names only such values
abbrev pub OwnReach : ℕ → Own → Type 0
OwnReach len (write_register r x) = Reach len x
OwnReach len (write_nils at count) = Unit {0}
OwnReach len end_list = Unit {0}
OwnReach len (cut_from r) = Unit {0}
OwnReach len (close_cells r) = Unit {0}
OwnReach len (mark_pending r) = Unit {0}
OwnReach len (take_pending r) = Unit {0}
OwnReach len (drop_pending r) = Unit {0}
OwnReach len (keep_results from count) = Unit {0}
OwnReach len keep_pending = Unit {0}
OwnReach len (see x) = Unit {0}
OwnReach len _ = ⊥

abbrev pub Reaches : ℕ → List Own → Type 0
Reaches len [] = Unit {0}
Reaches len (m ∷ ms) = OwnReach len m × Reaches len ms

-- a wait for what an operation gives, of which no error is known: what is joined on waits for a joined value
abbrev pub IsPlain : Operation → Wait Arg → Type 0
IsPlain operation running = ⊥
IsPlain operation (leaving x) = ⊥
IsPlain operation (for_concat i) = operation ≡ concat
IsPlain operation _ = Unit {0}

-- an operation that is settled has given one value
abbrev pub GivesOne : Settled → Type 0
GivesOne (found H vs) = nth vs 0 ∷ [] ≡ vs
GivesOne _ = Unit {0}

-- how many values a move reads at least
abbrev pub least : Own → ℕ
least (read_register r) = 1
least _ = 0

-- a text at an instruction of p, in a frame whose wait is w and where len values have been read. Without names of variables it names none
abbrev pub Good : Prototype → ℕ → Wait Value → ℕ → Text → Type 0
Good p pc w len (go_by z) = w ≡ running
Good p pc w len (own m k) = (s : Shape) (more : ℕ) → least m ≤ more → Good p pc w (len + more) (k len s)
Good p pc w len (open_cell r t) = Good p pc w len t
Good p pc w len (quick q k) = (more : ℕ) → Good p pc w (len + more) (k len)
Good p pc w len (operate op xs wait prepared t) = IsPlain op wait × Reaches len prepared × (t ≡ rest_at wait p pc) × ((n : ℕ) → Good p pc w n t)
Good p pc w len (call f slot wait prepared) = IsWaiting wait
Good p pc w len (tail_call f slot) = Unit {0}
Good p pc w len (close v e wait prepared) = IsWaiting wait × WaitReach len wait × Reaches len prepared
Good p pc w len (closable v name t) = (p.own.locals ≡ [] → name ≡ codes "?") × Good p pc w len t
Good p pc w len (raise text) = Unit {0}
Good p pc w len (leave given) = Unit {0}
Good p pc w len trap = Unit {0}

-- what is read behind does not change what is named

arg_front : (env vs : List Value) (x : Arg) → Reach (length env) x → arg (env ++ vs) x ≡ arg env x
arg_front env vs (read n) l = nth_old env vs n l
arg_front env vs (written p) l = refl

pub named_front : (env vs : List Value) (wait : Wait Arg) → WaitReach (length env) wait → named (env ++ vs) wait ≡ named env wait
named_front env vs (leaving x) l = ap leaving (arg_front env vs x l)
named_front env vs _ l = refl

pub effect_front : (m : Own) (p : Prototype) (env vs : List Value) (a : Activation) → OwnReach (length env) m → effect m p (env ++ vs) a ≡ effect m p env a
effect_front (write_register r x) p env vs a l = ap (λ v. record a { registers = Rattle.int_core.specs.Value.write r v a.registers }) (arg_front env vs x l)
effect_front (write_registers at count slot) p env vs a l = absurd l
effect_front (write_list at slot) p env vs a l = absurd l
effect_front _ p env vs a l = refl

pub reads_nothing : (m : Own) (p : Prototype) (len : ℕ) (env : List Value) (a : Activation) → OwnReach len m → reads m p env a ≡ []
reads_nothing (read_register r) p len env a l = absurd l
reads_nothing (read_registers from count) p len env a l = absurd l
reads_nothing (read_list from) p len env a l = absurd l
reads_nothing (read_constant n) p len env a l = absurd l
reads_nothing read_varargs p len env a l = absurd l
reads_nothing (see_pending r) p len env a l = absurd l
reads_nothing _ p len env a l = refl

pub done_front : (ms : List Own) (p : Prototype) (env vs : List Value) (a : Activation) → Reaches (length env) ms → done ms p (env ++ vs) a ≡ done ms p env a
done_front [] p env vs a l = refl
done_front (m ∷ ms) p env vs a l = ap (done ms p (env ++ vs)) (effect_front m p env vs a l.0) ∙ done_front ms p env vs (effect m p env a) l.1

pub cells_front : (ms : List Own) (p : Prototype) (co f : ℕ) (env vs : List Value) (a : Activation) (ws : List Cell) → Reaches (length env) ms → cells_done ms p co f (env ++ vs) a ws ≡ cells_done ms p co f env a ws
cells_front [] p co f env vs a ws l = refl
cells_front (m ∷ ms) p co f env vs a ws l = ap (λ a'. cells_done ms p co f (env ++ vs) a' (cells_after m co f a ws)) (effect_front m p env vs a l.0) ∙ cells_front ms p co f env vs (effect m p env a) (cells_after m co f a ws) l.1

pub least_read : (m : Own) (p : Prototype) (env : List Value) (a : Activation) → least m ≤ length (reads m p env a)
least_read (read_register r) p env a = omega arith
least_read _ p env a = omega arith

-- waits

pub named_waits : (env : List Value) (wait : Wait Arg) → IsWaiting wait → IsWaiting (named env wait)
named_waits env running k = k
named_waits env _ k = tt

pub plain_waits : (operation : Operation) (wait : Wait Arg) → IsPlain operation wait → IsWaiting wait
plain_waits operation running k = k
plain_waits operation (leaving x) k = absurd k
plain_waits operation _ k = tt

pub plain_reach : (operation : Operation) (len : ℕ) (wait : Wait Arg) → IsPlain operation wait → WaitReach len wait
plain_reach operation len (leaving x) k = absurd k
plain_reach operation len _ k = tt

pub plain_told : (operation : Operation) (env vs : List Value) (wait : Wait Arg) → IsPlain operation wait → (operation ≡ concat → nth vs 0 ∷ [] ≡ vs) → told_values (named env wait) (values vs) ≡ vs
plain_told operation env vs (for_concat (suc i)) k one = one k
plain_told operation env vs (leaving x) k one = absurd k
plain_told operation env vs _ k one = refl

-- a join that is settled gives the joined text
pub join_gives_one : (operation : Operation) (xs : List Value) (H : Heap) → operation ≡ concat → GivesOne (does operation xs H)
join_gives_one operation xs H e = subst (λ o. GivesOne (does o xs H)) (sym e) (of xs)
  where
    in_limit : (text : List ℕ) (b : Bool) → GivesOne (cond b (found H (known (string text) ∷ [])) (fault (codes "resulting string too large")))
    in_limit text true = refl
    in_limit text false = tt

    by_handler : (h : Option Value) (args : List Value) (words : List ℕ) → GivesOne (asked h args (fault words))
    by_handler (Some h) args words = tt
    by_handler None args words = tt

    of_texts : (s t : Option (List ℕ)) (left right : Value) → GivesOne (concat_on H s t left right)
    of_texts (Some s) (Some t) left right = in_limit (s ++ t) (nat_le (length (s ++ t)) greatest_string)
    of_texts (Some s) None left right = by_handler (handler_of H of_concat left right) (left ∷ right ∷ []) (of_type (codes "concatenate") (at_fault is_text left right))
    of_texts None t left right = by_handler (handler_of H of_concat left right) (left ∷ right ∷ []) (of_type (codes "concatenate") (at_fault is_text left right))

    of : (xs : List Value) → GivesOne (does concat xs H)
    of [] = tt
    of (left ∷ []) = tt
    of (left ∷ right ∷ []) = of_texts (text_of left) (text_of right) left right
    of (left ∷ right ∷ more ∷ xs) = tt

pub rest_named : (env : List Value) (wait : Wait Arg) (p : Prototype) (pc : ℕ) → rest_at (named env wait) p pc ≡ rest_at wait p pc
rest_named env running p pc = refl
rest_named env _ p pc = refl
