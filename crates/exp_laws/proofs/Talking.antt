-- A tree and its code that talk alike: steps of either side, and asks of both.
use Rattle.std.proofs.Common.{◌≡◌, ℕ, zero, suc, Bool, true, false, cond, List, Option, Some, None, sym, ap, subst}
use Rattle.std.specs.Prelude.{codes}
use Rattle.int_core.specs.Value.{Value}
use Rattle.int_core.specs.Ask.{Ask, reads_upvalue, writes_upvalue, makes_table, makes_function, fills_table, pays, opens, operates, calls, calls_last, marks, closes, raises, leaves, Captured, Answer, Next, goes_on, says, stuck, on_from, runs, AskLike, NextLike, FitsAsk, IsChecked}
use Rattle.tree_core.specs.Tree.{Body}
use Rattle.tree_activation.specs.Work.{when_captured}
use Rattle.tree_activation.specs.Work as tree
use Rattle.tree_activation.specs.Activation.{start, step}
use Rattle.code_core.specs.declared.opcode.Opcode.{Opcode}
use Rattle.code_core.specs.declared.instruction.Instruction.{Instruction}
use Rattle.code_core.specs.Instruction.{opcode_of}
use Rattle.code_core.specs.Prototype.{Prototype}
use Rattle.code_core.specs.Check.{at}
use Rattle.machine_core.specs.Moves.{line_of}
use Rattle.machine_core.specs.Talk as code
use Rattle.machine_core.specs.Talk.{talk_start, talk_step}
use Rattle.machine_core.specs.World as world
use Rattle.lua_meaning.specs.World.{as_known, without_name}
use Rattle.code_means.specs.Means.{Same}
use Rattle.exp_laws.specs.Setting.{Alike, Setting, InnerAlike}
use Rattle.exp_laws.proofs.Registers.{marked_in}

ask_mono : {A B : Type 0} (R S : A → B → Type 0) → ((a : A) (b : B) → R a b → S a b) → (q : Ask A) (r : Ask B) → AskLike R q r → AskLike S q r
ask_mono R S f (reads_upvalue u) (reads_upvalue v) h = h
ask_mono R S f (writes_upvalue u v) (writes_upvalue w x) h = h
ask_mono R S f makes_table makes_table h = h
ask_mono R S f (makes_function a cells) (makes_function b others) h = (f a b h.0, h.1)
ask_mono R S f (fills_table t last vs) (fills_table u from ws) h = h
ask_mono R S f pays pays h = h
ask_mono R S f (opens v) (opens w) h = h
ask_mono R S f (operates op vs) (operates other ws) h = h
ask_mono R S f (calls a vs) (calls b ws) h = h
ask_mono R S f (calls_last a vs) (calls_last b ws) h = h
ask_mono R S f (marks v name) (marks w other) h = h
ask_mono R S f (closes v e) (closes w x) h = h
ask_mono R S f (raises t) (raises u) h = h
ask_mono R S f (leaves l) (leaves m) h = h
ask_mono R S f _ _ h = absurd h

next_mono : {A B S T : Type 0} (R R' : A → B → Type 0) (Q Q' : S → T → Type 0) → ((a : A) (b : B) → R a b → R' a b) → ((s : S) (t : T) → Q s t → Q' s t) → (x : Next A S) (y : Next B T) → NextLike R Q x y → NextLike R' Q' x y
next_mono R R' Q Q' f g (says q line shared k) (says r other also l) e = (ask_mono R R' f q r e.0, (e.1.0, (e.1.1.0, λ x fits. g (k x) (l x) (e.1.1.1 x fits))))
next_mono R R' Q Q' f g stuck stuck e = tt
next_mono R R' Q Q' f g _ _ e = absurd e

known_go : {F S : Type 0} (lines : Bool) (x : Next F S) (k : S → Next F S) (s : S) → x ≡ goes_on s → as_known lines (on_from x k) ≡ as_known lines (k s)
known_go lines x k s e = ap (λ y. as_known lines (on_from y k)) e

pub runs_from : {F S : Type 0} (steps : S → Next F S) (j : ℕ) (s t : S) → steps s ≡ steps t → runs steps j s ≡ runs steps j t
runs_from steps zero s t e = e
runs_from steps (suc j) s t e = ap (λ x. on_from x (runs steps j)) e

module _ (S : Setting) where
  -- both talk alike through n asks
  abbrev pub Agree : ℕ → tree.State → code.State → Type 0
  Agree n s t = Same S.lines n S.code s t

  abbrev pub NextAgree : ℕ → Next Body tree.State → Next Prototype code.State → Type 0
  NextAgree n x y = NextLike (InnerAlike S n) (Agree n) x y

  -- through fewer asks
  pub down : (n : ℕ) (s : tree.State) (t : code.State) → Agree (suc n) s t → Agree n s t
  down n s t h = fewer n S.code s t h
    where
      fewer : (n : ℕ) (p : Prototype) (s : tree.State) (t : code.State) → Same S.lines (suc n) p s t → Same S.lines n p s t
      fewer zero p s t h = tt
      fewer (suc n) p s t h =
          (h.0, h.1, next_mono (Alike S.lines (suc n)) (Alike S.lines n) (Same S.lines (suc n) p) (Same S.lines n p) (λ b q g arguments. fewer n q (start when_captured b arguments) (talk_start q arguments) (g arguments)) (fewer n p) (as_known S.lines (runs step h.0 s)) (runs (talk_step p) h.1 t) h.2)

  pub go_left : (n : ℕ) (s s' : tree.State) (t : code.State) → step s ≡ goes_on s' → Agree n s' t → Agree n s t
  go_left zero s s' t e h = tt
  go_left (suc n) s s' t e h =
      (suc h.0, h.1, subst (λ x. NextAgree n x (runs (talk_step S.code) h.1 t)) (sym (known_go S.lines (step s) (runs step h.0) s' e)) h.2)

  pub go_right : (n : ℕ) (s : tree.State) (t t' : code.State) → talk_step S.code t ≡ goes_on t' → Agree n s t' → Agree n s t
  go_right zero s t t' e h = tt
  go_right (suc n) s t t' e h =
      (h.0, suc h.1, subst (λ x. NextAgree n (as_known S.lines (runs step h.0 s)) (on_from x (runs (talk_step S.code) h.1))) (sym e) h.2)

  -- another state of the code, from which the same is done
  pub as_code : (n : ℕ) (s : tree.State) (t t' : code.State) → talk_step S.code t ≡ talk_step S.code t' → Agree n s t' → Agree n s t
  as_code zero s t t' e h = tt
  as_code (suc n) s t t' e h = (h.0, h.1, subst (λ x. NextAgree n (as_known S.lines (runs step h.0 s)) x) (sym (runs_from (talk_step S.code) h.1 t t' e)) h.2)

  both_say : (n : ℕ) (s : tree.State) (t : code.State) (x : Next Body tree.State) (y : Next Prototype code.State) → step s ≡ x → talk_step S.code t ≡ y → NextAgree n (as_known S.lines x) y → Agree (suc n) s t
  both_say n s t x y e d h =
      (0, 0, subst (λ z. NextAgree n (as_known S.lines (step s)) z) (sym d) (subst (λ z. NextAgree n (as_known S.lines z) y) (sym e) h))

  pub both_stuck : (n : ℕ) (s : tree.State) (t : code.State) → step s ≡ stuck → talk_step S.code t ≡ stuck → Agree n s t
  both_stuck zero s t e d = tt
  both_stuck (suc n) s t e d = both_say n s t stuck stuck e d (by S.lines)
    where
      by : (b : Bool) → NextAgree n (as_known b stuck) stuck
      by true = tt
      by false = tt

  -- an instruction is at a place, and its line is this one, where lines are known
  pub record Here (pc line : ℕ) : Type 0 where
    pub word : Instruction
    pub opcode : Opcode
    pub there : at S.code pc ≡ Some word
    pub is : opcode_of word ≡ Some opcode
    pub lined : line_of S.code pc ≡ cond S.lines (Some line) None

  -- both ask, on one line and with the same shared values
  ask_line : (n : ℕ) (q : Ask Body) (r : Ask Prototype) (line : ℕ) (other : Option ℕ) (shared also : List (ℕ × Value)) (f : Answer → tree.State) (g : Answer → code.State)
      → AskLike (InnerAlike S n) q r → without_name q ≡ q → other ≡ cond S.lines (Some line) None → shared ≡ also → ((x : Answer) → FitsAsk q shared x → Agree n (f x) (g x))
      → NextAgree n (as_known S.lines (says q (Some line) shared f)) (says r other also g)
  ask_line n q r line other shared also f g like plain lined same next = by S.lines lined
    where
      by : (b : Bool) → other ≡ cond b (Some line) None → NextAgree n (as_known b (says q (Some line) shared f)) (says r other also g)
      by true e = (like, (sym e, (same, next)))
      by false e = subst (λ z. NextAgree n (says z None shared f) (says r other also g)) (sym plain) (like, (sym e, (same, next)))

  pub both_ask : (n : ℕ) (s : tree.State) (t : code.State) (q : Ask Body) (r : Ask Prototype) (line : ℕ) (other : Option ℕ) (shared also : List (ℕ × Value)) (f : Answer → tree.State) (g : Answer → code.State)
      → step s ≡ says q (Some line) shared f → talk_step S.code t ≡ says r other also g
      → AskLike (InnerAlike S n) q r → without_name q ≡ q → other ≡ cond S.lines (Some line) None → shared ≡ also → ((x : Answer) → FitsAsk q shared x → Agree n (f x) (g x))
      → Agree (suc n) s t
  both_ask n s t q r line other shared also f g e d like plain lined same next =
      both_say n s t (says q (Some line) shared f) (says r other also g) e d (ask_line n q r line other shared also f g like plain lined same next)

  -- both mark a variable; its name is told where lines are known
  mark_line : (n : ℕ) (v w : Value) (name named : List ℕ) (line : ℕ) (other : Option ℕ) (shared also : List (ℕ × Value)) (f : Answer → tree.State) (g : Answer → code.State)
      → v ≡ w → named ≡ cond S.lines name (codes "?") → other ≡ cond S.lines (Some line) None → shared ≡ also → ((x : Answer) → IsChecked x.reply → Agree n (f x) (g x))
      → NextAgree n (as_known S.lines (says (marks v name) (Some line) shared f)) (says (marks w named) other also g)
  mark_line n v w name named line other shared also f g like told lined same next = by S.lines told lined
    where
      by : (b : Bool) → named ≡ cond b name (codes "?") → other ≡ cond b (Some line) None → NextAgree n (as_known b (says (marks v name) (Some line) shared f)) (says (marks w named) other also g)
      by true told e = ((like, sym told), (sym e, (same, λ x fits. next x fits.reply)))
      by false told e = ((like, sym told), (sym e, (same, λ x fits. next x fits.reply)))

  pub both_mark : (n : ℕ) (s : tree.State) (t : code.State) (v w : Value) (name named : List ℕ) (line : ℕ) (other : Option ℕ) (shared also : List (ℕ × Value)) (f : Answer → tree.State) (g : Answer → code.State)
      → step s ≡ says (marks v name) (Some line) shared f → talk_step S.code t ≡ says (marks w named) other also g
      → v ≡ w → named ≡ cond S.lines name (codes "?") → other ≡ cond S.lines (Some line) None → shared ≡ also → ((x : Answer) → IsChecked x.reply → Agree n (f x) (g x)) → Agree (suc n) s t
  both_mark n s t v w name named line other shared also f g e d like told lined same next =
      both_say n s t (says (marks v name) (Some line) shared f) (says (marks w named) other also g) e d (mark_line n v w name named line other shared also f g like told lined same next)

  -- the two activations. Code has marked just those variables to be closed that need it
  module _ (pending : List tree.Pending) where
    abbrev pub of_tree : List Value → Captured → tree.Activation
    of_tree env c = record { celling = when_captured; locals = env; varargs = S.varargs; pending = pending; captured = c }

    abbrev pub of_code : (pc : ℕ) → List Value → (opened : ℕ) → world.Activation
    of_code pc regs opened = record { pc = pc; registers = regs; varargs = S.varargs; pending = marked_in pending; opened = opened }
