-- The first reading of a text: one activation of a Lua function told apart from the world. It makes asks and gets answers; an ask carries
-- the line and the present values of the locals that other functions share with it, and an answer brings these values back.
use Rattle.std.specs.Prelude.{ℕ, zero, suc, cond, List, [], ◌∷◌, ◌++◌, length, take, drop, Option, Some, None, slice_get}
use Rattle.code_core.specs.declared.proto.UpDesc.{UpDesc}
use Rattle.code_core.specs.Prototype.{Prototype, list_of}
use Rattle.code_core.specs.Check.{at}
use Rattle.int_core.specs.Value.{nil, Value, known, nth, bind, fitted}
use Rattle.machine_core.specs.World.{Wait, leaving, Activation}
use Rattle.machine_core.specs.Text.{arg, args_of, Own, close_cells, keep_pending, reads, tells, effect, fits, done, Quick, read_upvalue, write_upvalue, make_table, make_function, fill_table, pay, Given, results, thrown, Text, go_by, own, open_cell, quick, operate, call, tail_call, close, closable, raise, leave, trap}
use Rattle.machine_core.specs.InstructionRows.{text_at, after, told_values}
use Rattle.int_core.specs.Ask.{Reply, values, faulted, left, values_in, Captured, CellName, of_local, of_upvalue, Left, returns, throws, Ask, reads_upvalue, writes_upvalue, makes_table, makes_function, fills_table, pays, opens, operates, calls, calls_last, marks, closes, raises, leaves, Answer, Next, goes_on, says, stuck, cell_held, held_below, gone_from, shared_by, brought}
use Rattle.machine_core.specs.Moves.{line_of, place_from, named}

pub data State : Type 0 where
  before : Activation → Captured → State
  amid : Text → (env : List Value) → Activation → Captured → State

-- captured locals

abbrev pub captured_after : Own → Activation → Captured → Captured
captured_after (close_cells r) a c = record { held = held_below r c.held; gone = gone_from r c.held a.registers ++ c.gone }
captured_after m a c = c

abbrev pub captured_done : List Own → Prototype → List Value → Activation → Captured → Captured
captured_done [] p env a c = c
captured_done (m ∷ ms) p env a c = captured_done ms p env (effect m p env a) (captured_after m a c)

-- an ask, and how the activation goes on once it is answered
abbrev pub says_so : Ask Prototype → Prototype → Activation → Captured → (Answer → Activation → Captured → State) → Next Prototype State
says_so q p a c k = says q (line_of p a.pc) (shared_by c.held a.registers ++ c.gone)
    (λ x. k x (record a { registers = brought c.held x.shared a.registers }) (record c { gone = [] }))

abbrev pub names_of : List UpDesc → List (ℕ × ℕ) → Option (List CellName)
names_of [] held = Some []
names_of (u ∷ us) held = bind (cond u.in_stack (bind (cell_held u.index held) (λ cell. Some (of_local cell))) (Some (of_upvalue u.index))) (λ name.
    bind (names_of us held) (λ names. Some (name ∷ names)))

abbrev pub quick_ask : Quick → Prototype → List Value → Captured → Option (Ask Prototype)
quick_ask (read_upvalue u) p env c = Some (reads_upvalue u)
quick_ask (write_upvalue u x) p env c = Some (writes_upvalue u (arg env x))
quick_ask make_table p env c = Some makes_table
quick_ask (make_function n) p env c = bind (slice_get (list_of p.inner) n) (λ q. bind (names_of q.own.upvalues c.held) (λ names. Some (makes_function q names)))
quick_ask (fill_table t last slot) p env c = Some (fills_table (arg env t) last (drop slot env))
quick_ask pay p env c = Some pays

-- after an answer for which the activation waits
abbrev pub heard : Wait Value → Prototype → Answer → Activation → Captured → State
heard wait p x a c = amid (after wait p a.pc x.reply) (told_values wait x.reply) a c

abbrev pub left_with : List Value → Given → Left
left_with env (results slot) = returns (drop slot env)
left_with env (thrown x) = throws (arg env x)

abbrev pub marked : Text → Prototype → ℕ → Reply → Text
marked t p pc (values vs) = t
marked t p pc (faulted text) = raise text
marked t p pc (left e) = trap

abbrev pub talk : Prototype → Text → List Value → Activation → Captured → Next Prototype State
talk p (go_by z) env a c = elim (bind (place_from a.pc z) (λ pc. bind (at p pc) (λ _. Some pc))) [ None ↦ stuck | Some pc ↦ goes_on (before (record a { pc = pc }) c) ]
talk p (own m k) env a c = cond (fits m p a) (talk p (k (length env) (tells m p env a)) (env ++ reads m p env a) (effect m p env a) (captured_after m a c)) stuck
talk p (open_cell r t) env a c = elim (cell_held r c.held) [
  | Some _ ↦ talk p t env a c
  | None ↦ says_so (opens (nth a.registers r)) p a c (λ x b d. amid t env b (record d { held = (r, x.cell) ∷ d.held }))
]
talk p (quick q k) env a c = elim (quick_ask q p env c) [
  | None ↦ stuck
  | Some ask ↦ says_so ask p a c (λ x b d. amid (k (length env)) (env ++ values_in x.reply) b d)
]
talk p (operate op xs wait prepared t) env a c =
    says_so (operates op (args_of env xs)) p (done prepared p env a) (captured_done prepared p env a c) (λ x b d. heard (named env wait) p x b d)
talk p (call f slot wait prepared) env a c =
    says_so (calls (arg env f) (drop slot env)) p (done prepared p env a) (captured_done prepared p env a c) (λ x b d. heard (named env wait) p x b d)
talk p (tail_call f slot) env a c = says_so (calls_last (arg env f) (drop slot env)) p a c (λ x b d. amid (marked trap p b.pc x.reply) [] b d)
talk p (close v e wait prepared) env a c =
    says_so (closes (arg env v) (arg env e)) p (done prepared p env a) (captured_done prepared p env a c) (λ x b d. heard (named env wait) p x b d)
talk p (closable v name t) env a c = says_so (marks (arg env v) name) p a c (λ x b d. amid (marked t p b.pc x.reply) env b d)
talk p (raise text) env a c =
    let ms = close_cells 0 ∷ keep_pending ∷ [] in
    says_so (raises text) p (done ms p env a) (captured_done ms p env a c) (λ x b d. heard (leaving (known nil)) p x b d)
talk p (leave given) env a c = says_so (leaves (left_with env given)) p a c (λ x b d. amid trap [] b d)
talk p trap env a c = stuck

abbrev pub talk_step : Prototype → State → Next Prototype State
talk_step p (before a c) = talk p (text_at p a.pc) [] a c
talk_step p (amid t env a c) = talk p t env a c

abbrev pub talk_start : Prototype → List Value → State
talk_start p arguments = before (record {
  pc = 0;
  registers = fitted p.own.stack (take p.own.params arguments);
  varargs = cond p.own.vararg (drop p.own.params arguments) [];
  pending = [];
  opened = 0;
}) (record { held = []; gone = [] })

-- what is asked in at most n steps, where these answers are given one after another
abbrev pub asked : ℕ → Prototype → Next Prototype State → List Answer → List (Ask Prototype × List (ℕ × Value))
asked zero p next answers = []
asked (suc n) p stuck answers = []
asked (suc n) p (goes_on s) answers = asked n p (talk_step p s) answers
asked (suc n) p (says q line shared k) [] = (q, shared) ∷ []
asked (suc n) p (says q line shared k) (x ∷ answers) = (q, shared) ∷ asked n p (talk_step p (k x)) answers
