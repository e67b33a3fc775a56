-- The static rules: what a tree that the grammar gives may not have (Lua 5.4 manual, 3.3.4, 3.3.7, 3.3.8 and 3.4.11), and the limits of this project. Each rule is a condition on a part of the finished tree and on what stands around it there.
use Rattle.std.specs.Prelude.{ℕ, ◌+◌, Bool, true, false, not, ◌&&◌, ◌||◌, nat_lt, if◌then◌else◌, List, [], ◌∷◌, ◌++◌, length, flat_map}
use Rattle.std.specs.List.{list_any}
use Rattle.std.specs.Str.{bytes_eq}
use Rattle.tree_core.specs.declared.name.Attrib.{Attrib}
use Rattle.tree_core.specs.declared.name.Attrib.TheVariants.{Close, Other}
use Rattle.tree_core.specs.declared.name.Declared.{Declared}
use Rattle.tree_core.specs.Tree.{Block, Falls, Returns, BodyOf, Stats, EndStats, MoreStats, Stat, Empty, Local, LocalFunction, Assign, CallStat, Do, While, Repeat, If, IfElse, NumFor, NumForStep, GenFor, Label, Goto, Break, Exps, EndExps, MoreExps, Var}
use Rattle.scope_core.specs.declared.violation.Violation.{Violation}
use Rattle.scope_core.specs.Scopes.{Scope, Frame, Around, names_fixed}
use Rattle.scope_core.specs.Parts.{Part, Rest, Naming, Inner, Statement, Until, Result, Declares, body_parts}
use Rattle.scope_core.specs.Held.{held, held_behind, held_stat}
use Rattle.scope_core.specs.Places.{placed}

-- a violation where a condition holds
abbrev pub breach : Bool → ℕ → ℕ → List Violation
breach holds line rule = if holds then record { line = line; rule = rule } ∷ [] else []

abbrev pub locals : List Frame → ℕ
locals [] = 0
locals (frame ∷ frames) = length frame.variables

-- Rule 1: a variable that was declared `const` or `close` is assigned.

abbrev pub target_violations : List Frame → Exps → List Violation
target_violations frames EndExps = []
target_violations frames (MoreExps (Var line name) targets) =
    breach (names_fixed name.text frames) name.line 1 ++ target_violations frames targets
target_violations frames (MoreExps _ targets) = target_violations frames targets

-- Rules 2 to 4: a `goto` names the first label of its name in the innermost block around it that has one.

abbrev pub is_label : List ℕ → Stat → Bool
is_label text (Label line name) = bytes_eq name.text text
is_label text _ = false

abbrev pub declares_variable : Stat → Bool
declares_variable (Local line names values) = true
declares_variable (LocalFunction line name body) = true
declares_variable _ = false

abbrev pub is_empty_or_label : Stat → Bool
is_empty_or_label (Empty line) = true
is_empty_or_label (Label line name) = true
is_empty_or_label _ = false

abbrev pub only_labels : Stats → Bool
only_labels EndStats = true
only_labels (MoreStats stat stats) = is_empty_or_label stat && only_labels stats

-- what a `goto` finds in a block: no label, one that it can go to, or one in the scope of a variable that it would enter
pub data Found : Type 0 where
  Missing : Found
  Fine : Found
  Entering : Found

-- looking forward, where a variable was declared behind the `goto` or not
abbrev pub find_behind : List ℕ → (entered ends_scope : Bool) → Stats → Found
find_behind text entered ends_scope EndStats = Missing
find_behind text entered ends_scope (MoreStats stat stats) =
    if is_label text stat
    then (if entered && not (ends_scope && only_labels stats) then Entering else Fine)
    else find_behind text (entered || declares_variable stat) ends_scope stats

abbrev pub find_in : List ℕ → Around → Found
find_in text block =
    if list_any (is_label text) block.before then Fine else find_behind text false block.ends_scope block.behind

abbrev pub or_further : Found → Found → Found
or_further Missing further = further
or_further Fine further = Fine
or_further Entering further = Entering

abbrev pub find_label : List ℕ → List Around → Found
find_label text [] = Missing
find_label text (block ∷ blocks) = or_further (find_in text block) (find_label text blocks)

abbrev pub goto_violations : ℕ → Found → List Violation
goto_violations line Missing = record { line = line; rule = 2 } ∷ []
goto_violations line Fine = []
goto_violations line Entering = record { line = line; rule = 4 } ∷ []

-- a label of that name stands before, in a block around
abbrev pub stands_before : List ℕ → List Around → Bool
stands_before text blocks = list_any (λ block. list_any (is_label text) block.before) blocks

-- Rules 6 and 7: attributes.

abbrev pub is_close : Attrib → Bool
is_close Close = true
is_close _ = false

-- of an attribute before which the declaration has a `close`, or none
abbrev pub attrib_breach : (closed : Bool) → Attrib → ℕ → List Violation
attrib_breach closed Close line = breach closed line 6
attrib_breach closed (Other word) line = breach true line 7
attrib_breach closed _ line = []

abbrev pub attrib_violations : (closed : Bool) → List Declared → List Violation
attrib_violations closed [] = []
attrib_violations closed (declared ∷ names) =
    attrib_breach closed declared.attrib declared.attrib_line
    ++ attrib_violations (closed || is_close declared.attrib) names

-- Rule 12: the tokens in the body of a `for`.

abbrev pub tokens_of : Block → ℕ
tokens_of (Falls stats tokens line) = tokens
tokens_of (Returns stats values tokens line) = tokens

-- All rules.

-- Rule 11: with the variables in scope more than 250 values are held
abbrev pub held_violations : Scope → ℕ → ℕ → List Violation
held_violations scope line count = breach (nat_lt 250 (locals scope.frames + count)) line 11

abbrev pub stat_line : Stat → ℕ
stat_line (Empty line) = line
stat_line (Local line names values) = line
stat_line (LocalFunction line name body) = line
stat_line (Assign line targets values) = line
stat_line (CallStat line call) = line
stat_line (Do line block) = line
stat_line (While line test block) = line
stat_line (Repeat line block test) = line
stat_line (If line arms) = line
stat_line (IfElse line arms otherwise) = line
stat_line (NumFor line name first limit block) = line
stat_line (NumForStep line name first limit step block) = line
stat_line (GenFor line names values block) = line
stat_line (Label line name) = line
stat_line (Goto line name) = line
stat_line (Break line) = line

abbrev pub stat_violations : Scope → Stat → List Violation
stat_violations scope (Assign line targets values) = target_violations scope.frames targets
stat_violations scope (Goto line name) = goto_violations line (find_label name.text scope.blocks)
stat_violations scope (Label line name) = breach (stands_before name.text scope.blocks) line 3
stat_violations scope (Break line) = breach (not scope.in_loop) line 5
stat_violations scope (Local line names values) = attrib_violations false names
stat_violations scope (NumFor line name first limit block) = breach (nat_lt 16000 (tokens_of block)) line 12
stat_violations scope (NumForStep line name first limit step block) = breach (nat_lt 16000 (tokens_of block)) line 12
stat_violations scope (GenFor line names values block) = breach (nat_lt 16000 (tokens_of block)) line 12
stat_violations scope _ = []

abbrev pub part_violations : Scope → Part → List Violation
part_violations scope (Rest line) = breach (not scope.is_vararg) line 8
part_violations scope (Naming name) = []
part_violations scope (Inner (BodyOf params vararg inner upvalues line)) = breach (nat_lt 255 (length upvalues)) line 10
part_violations scope (Statement stat) = stat_violations scope stat ++ held_violations scope (stat_line stat) (held_stat stat)
part_violations scope (Until line test) = held_violations scope line (held test)
part_violations scope (Result line values) = held_violations scope line (held_behind 0 values)
part_violations scope (Declares line) = breach (nat_lt 200 (locals scope.frames)) line 9

abbrev pub begin : Scope
begin = record { frames = []; blocks = []; in_loop = false; is_vararg = false }

-- the violations of all rules in a source
abbrev pub violations : Block → List Violation
violations block = flat_map (λ located. part_violations located.around located.part) (body_parts begin (placed block))
