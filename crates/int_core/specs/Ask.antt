-- What one activation of a function says to the world, and what it is told: an ask carries its line and the present values of the locals
-- that other functions share with the activation, and an answer brings these values back.
use Rattle.std.specs.Prelude.{◌≡◌, ℕ, zero, suc, cond, List, [], ◌∷◌, length, map, Option, Some, None, nat_eq, nat_lt}
use Rattle.int_core.specs.Value.{Value, a_table, object, nth, write}
use Rattle.int_core.specs.Operations.{Operation}

-- a cell that a new function gets: that of an own local, or one of the activation's function
pub data CellName : Type 0 where
  of_local : (cell : ℕ) → CellName
  of_upvalue : ℕ → CellName

-- with what an activation is left
pub data Left : Type 0 where
  returns : List Value → Left
  throws : Value → Left

-- what is asked; F is what a function is made of
pub data Ask (F : Type 0) : Type 0 where
  reads_upvalue : ℕ → Ask F
  writes_upvalue : ℕ → Value → Ask F
  makes_table : Ask F
  makes_function : F → List CellName → Ask F
  fills_table : Value → (last : ℕ) → List Value → Ask F
  pays : Ask F
  opens : Value → Ask F
  operates : Operation → List Value → Ask F
  calls : Value → List Value → Ask F
  calls_last : Value → List Value → Ask F
  marks : Value → (name : List ℕ) → Ask F
  closes : Value → (error : Value) → Ask F
  raises : List ℕ → Ask F
  leaves : Left → Ask F

-- values; a fault of the activation's own step, of which it is to be told by an error of its own; or the error with which it is left from above
pub data Reply : Type 0 where
  values : List Value → Reply
  faulted : List ℕ → Reply
  left : Value → Reply

abbrev pub values_in : Reply → List Value
values_in (values vs) = vs
values_in (faulted _) = []
values_in (left _) = []

-- `cell` is the number of a cell that was asked for
pub record Answer : Type 0 where
  pub reply : Reply
  pub shared : List Value
  pub cell : ℕ

-- what an activation does next: a step of its own, an ask, or nothing, where a rule on its code is broken
pub data Next (F S : Type 0) : Type 0 where
  goes_on : S → Next F S
  says : Ask F → (line : Option ℕ) → (shared : List (ℕ × Value)) → (Answer → S) → Next F S
  stuck : Next F S

-- captured locals: each place with its cell; and the last values of those that went out of scope since the last ask, newest first

pub record Captured : Type 0 where
  pub held : List (ℕ × ℕ)
  pub gone : List (ℕ × Value)

abbrev pub cell_held : ℕ → List (ℕ × ℕ) → Option ℕ
cell_held place [] = None
cell_held place (h ∷ held) = cond (nat_eq h.0 place) (Some h.1) (cell_held place held)

abbrev pub held_below : ℕ → List (ℕ × ℕ) → List (ℕ × ℕ)
held_below level [] = []
held_below level (h ∷ held) = cond (nat_lt h.0 level) (h ∷ held_below level held) (held_below level held)

-- the cells of the places from a level on, with their values
abbrev pub gone_from : ℕ → List (ℕ × ℕ) → List Value → List (ℕ × Value)
gone_from level [] locals = []
gone_from level (h ∷ held) locals = cond (nat_lt h.0 level) (gone_from level held locals) ((h.1, nth locals h.0) ∷ gone_from level held locals)

-- the captured locals as an ask carries them
abbrev pub shared_by : List (ℕ × ℕ) → List Value → List (ℕ × Value)
shared_by [] locals = []
shared_by (h ∷ held) locals = (h.1, nth locals h.0) ∷ shared_by held locals

-- and as an answer brings them
abbrev pub brought : List (ℕ × ℕ) → List Value → List Value → List Value
brought [] vs locals = locals
brought (h ∷ held) [] locals = locals
brought (h ∷ held) (v ∷ vs) locals = brought held vs (write h.0 v locals)

-- two activations side by side

-- the first step that is no step of its own, or the state after at most n of them and one more
abbrev pub on_from : {F S : Type 0} → Next F S → (S → Next F S) → Next F S
on_from (goes_on s) next = next s
on_from (says q line shared k) next = says q line shared k
on_from stuck next = stuck

abbrev pub runs : {F S : Type 0} → (S → Next F S) → ℕ → S → Next F S
runs step zero s = step s
runs step (suc n) s = on_from (step s) (runs step n)

-- two asks are the same, where what functions are made of is related by R
abbrev pub AskLike : {A B : Type 0} → (A → B → Type 0) → Ask A → Ask B → Type 0
AskLike R (reads_upvalue u) (reads_upvalue v) = u ≡ v
AskLike R (writes_upvalue u v) (writes_upvalue w x) = (u ≡ w) × (v ≡ x)
AskLike R makes_table makes_table = Unit {0}
AskLike R (makes_function f cells) (makes_function g others) = R f g × (cells ≡ others)
AskLike R (fills_table t last vs) (fills_table u from ws) = (t ≡ u) × ((last ≡ from) × (vs ≡ ws))
AskLike R pays pays = Unit {0}
AskLike R (opens v) (opens w) = v ≡ w
AskLike R (operates op vs) (operates other ws) = (op ≡ other) × (vs ≡ ws)
AskLike R (calls f vs) (calls g ws) = (f ≡ g) × (vs ≡ ws)
AskLike R (calls_last f vs) (calls_last g ws) = (f ≡ g) × (vs ≡ ws)
AskLike R (marks v name) (marks w other) = (v ≡ w) × (name ≡ other)
AskLike R (closes v e) (closes w f) = (v ≡ w) × (e ≡ f)
AskLike R (raises text) (raises other) = text ≡ other
AskLike R (leaves l) (leaves m) = l ≡ m
AskLike R _ _ = ⊥

-- an answer fits an ask

abbrev pub IsOne : Reply → Type 0
IsOne (values (v ∷ [])) = Unit {0}
IsOne _ = ⊥

abbrev pub IsTable : Reply → Type 0
IsTable (values (object a_table n ∷ [])) = Unit {0}
IsTable _ = ⊥

abbrev pub IsDone : Reply → Type 0
IsDone (values []) = Unit {0}
IsDone _ = ⊥

-- the activation is told of a fault, and not left
abbrev pub IsFaulted : Reply → Type 0
IsFaulted (faulted text) = Unit {0}
IsFaulted _ = ⊥

abbrev pub IsLeft : Reply → Type 0
IsLeft (left e) = Unit {0}
IsLeft _ = ⊥

abbrev pub IsChecked : Reply → Type 0
IsChecked (left e) = ⊥
IsChecked reply = Unit {0}

-- an activation that calls another in its own place hears no more but of a fault, and one that ended hears nothing
abbrev pub IsReplyTo : {F : Type 0} → Ask F → Reply → Type 0
IsReplyTo (reads_upvalue u) reply = IsOne reply
IsReplyTo (writes_upvalue u v) reply = IsDone reply
IsReplyTo makes_table reply = IsTable reply
IsReplyTo (makes_function f cells) reply = IsOne reply
IsReplyTo (fills_table t last vs) reply = IsDone reply
IsReplyTo pays reply = IsDone reply
IsReplyTo (opens v) reply = IsDone reply
IsReplyTo (operates op vs) reply = Unit {0}
IsReplyTo (calls f vs) reply = Unit {0}
IsReplyTo (calls_last f vs) reply = IsFaulted reply
IsReplyTo (marks v name) reply = IsChecked reply
IsReplyTo (closes v e) reply = Unit {0}
IsReplyTo (raises text) reply = IsLeft reply
IsReplyTo (leaves l) reply = ⊥

-- while these are answered no other activation runs
abbrev pub IsQuiet : {F : Type 0} → Ask F → Type 0
IsQuiet (operates op vs) = ⊥
IsQuiet (calls f vs) = ⊥
IsQuiet (closes v e) = ⊥
IsQuiet (raises text) = ⊥
IsQuiet _ = Unit {0}

pub record FitsAsk {F : Type 0} (ask : Ask F) (shared : List (ℕ × Value)) (x : Answer) : Type 0 where
  pub reply : IsReplyTo ask x.reply
  pub count : length x.shared ≡ length shared
  pub kept : IsQuiet ask → x.shared ≡ map (λ s. s.1) shared

-- what is done next is the same, and so it is after each answer that fits, by Q
abbrev pub NextLike : {A B S T : Type 0} → (A → B → Type 0) → (S → T → Type 0) → Next A S → Next B T → Type 0
NextLike R Q (says q line shared k) (says r other also l) =
    AskLike R q r × ((line ≡ other) × ((shared ≡ also) × ((x : Answer) → FitsAsk q shared x → Q (k x) (l x))))
NextLike R Q stuck stuck = Unit {0}
NextLike R Q _ _ = ⊥
