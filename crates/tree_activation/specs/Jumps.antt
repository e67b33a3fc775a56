-- Where `break` and `goto` lead (Lua 5.4 manual, 3.3.4). A `goto` looks for its label in the innermost block around it, and then in the
-- blocks around that one.
use Rattle.std.specs.Prelude.{ℕ, ◌+◌, Bool, false, cond, List, [], ◌∷◌, length, Option, Some, None, bytes_eq}
use Rattle.int_core.specs.Value.{known, nil}
use Rattle.int_core.specs.Ask.{Next, stuck}
use Rattle.tree_core.specs.declared.name.Name.{Name}
use Rattle.tree_core.specs.Tree.{Body, Stats, EndStats, MoreStats, Local, LocalFunction, Label}
use Rattle.tree_activation.specs.Work.{End, falls_off, Passed, Point, complete, run, pay, leave_scope, Work, in_block, looping, repeating, counting, iterating, Activation, State}
use Rattle.tree_activation.specs.Asking.{go}
use Rattle.tree_terms.specs.Labels.{are_void}

-- a label that only void statements follow up to the block's end stands outside the scope of the block's locals
abbrev pub is_at_end : End → Stats → Bool
is_at_end (falls_off line) ss = are_void ss
is_at_end _ ss = false

-- where a jump leads: the level that it leaves, and the point of the block
pub record Landing : Type 0 where
  pub level : ℕ
  pub point : Point

abbrev pub passed_by : Name → ℕ → Stats → Passed
passed_by name level behind = record { name = name.text; level = level; behind = behind }

-- the label among the statements to come, with `level` locals in scope
abbrev pub ahead : List ℕ → (level : ℕ) → Stats → Point → List Passed → Option Landing
ahead name level EndStats p labels = None
ahead name level (MoreStats (Label line found) ss) p labels =
    cond (bytes_eq found.text name)
    (Some (record {
      level = cond (is_at_end p.ending ss) p.level level;
      point = record p { rest = ss; labels = passed_by found level ss ∷ labels };
    }))
    (ahead name level ss p (passed_by found level ss ∷ labels))
ahead name level (MoreStats (Local line names es) ss) p labels = ahead name (level + length names) ss p labels
ahead name level (MoreStats (LocalFunction line found body) ss) p labels = ahead name (level + 1) ss p labels
ahead name level (MoreStats s ss) p labels = ahead name level ss p labels

-- or among those that were passed
abbrev pub behind : List ℕ → Point → List Passed → Option Landing
behind name p [] = None
behind name p (x ∷ labels) =
    cond (bytes_eq x.name name) (Some (record { level = x.level; point = record p { rest = x.behind; labels = x ∷ labels } })) (behind name p labels)

-- the locals that a jump leaves go out of scope first; a jump to a label that stands earlier in the text costs a unit
abbrev pub lands : Option Landing → Option Landing → ℕ → Next Body State → Activation → List Work → Next Body State
lands (Some there) other line outside a k = go (leave_scope there.level line (known nil) (run there.point)) a k
lands None (Some there) line outside a k = go (leave_scope there.level line (known nil) (pay line (run there.point))) a k
lands None None line outside a k = outside

abbrev pub goes_to : List ℕ → ℕ → Activation → List Work → Next Body State
goes_to name line a [] = stuck
goes_to name line a (in_block here p ∷ k) = lands (ahead name here p.rest p p.labels) (behind name p p.labels) line (goes_to name line a k) a k
goes_to name line a (w ∷ k) = goes_to name line a k

-- `break` leaves the innermost loop
abbrev pub breaks : ℕ → Activation → List Work → Next Body State
breaks line a [] = stuck
breaks line a (looping loop_line test body level ∷ k) = go (leave_scope level line (known nil) complete) a k
breaks line a (repeating loop_line test body level ∷ k) = go (leave_scope level line (known nil) complete) a k
breaks line a (counting loop_line body level ∷ k) = go (leave_scope level line (known nil) complete) a k
breaks line a (iterating loop_line names body level ∷ k) = go (leave_scope level line (known nil) complete) a k
breaks line a (w ∷ k) = breaks line a k
