-- What the blocks around a place are to the rules.
use Rattle.std.specs.Prelude.{ℕ, Bool, not, ◌&&◌, if◌then◌else◌, List, map, reverse, take, drop}
use Rattle.tree_core.specs.Tree.{Stats, stats}
use Rattle.tree_core.specs.Plain.{plain_stat}
use Rattle.scope_core.specs.Scopes.{Scope, Frame, Around}
use Rattle.scope_core.specs.Rules as rules
use Rattle.lua_scope.specs.declared.labels.BlockPlace.{BlockPlace}
use Rattle.lua_scope.specs.declared.labels.Found.{Found}
use Rattle.lua_scope.specs.declared.labels.Found.TheVariants.{Missing, Fine, Entering}
use Rattle.lua_scope.specs.declared.checks.Flags.{Flags}

abbrev pub around_of : BlockPlace → Around
around_of block =
    record {
      before = reverse (take block.before (map plain_stat block.stats.now.items));
      behind = stats (drop block.behind (map plain_stat block.stats.now.items));
      ends_scope = block.ends_scope;
    }

-- the block around another place
abbrev pub moved : BlockPlace → (before behind : ℕ) → BlockPlace
moved block before behind = record block { before = before; behind = behind }

-- blocks that are kept from the outside in
abbrev pub arounds : List BlockPlace → List Around
arounds blocks = map around_of (reverse blocks)

abbrev pub found_of : Found → rules.Found
found_of Missing = rules.Missing
found_of Fine = rules.Fine
found_of Entering = rules.Entering

abbrev pub scope_at : List Frame → List BlockPlace → Flags → Scope
scope_at frames blocks flags =
    record { frames = frames; blocks = arounds blocks; in_loop = flags.in_loop; is_vararg = flags.is_vararg }

-- of a label behind a `goto`, by whether a variable was declared in between
abbrev pub find_at : Bool → Bool → Stats → rules.Found
find_at entered ends_scope behind =
    if entered && not (ends_scope && rules.only_labels behind) then rules.Entering else rules.Fine
