-- What holds at the limits on lines alone, and where reading failed, holds of runs that load sources.
use Rattle.std.proofs.Common.{Ok, Err, Result, refl}
use Rattle.std.specs.Prelude.{IsErrOf}
use Rattle.tree_core.specs.Tree.{Body}
use Rattle.load_rows.specs.Loading.{Builds}
use Rattle.source_builds.specs.Readings.{AsRead}
use Rattle.source_builds.proofs.Knowing.{read_all, read_both, read_map}
use Rattle.lua_feed.specs.declared.fault.FeedFault.{FeedFault}
use Rattle.lua_feed.specs.declared.fault.FeedFault.TheVariants.{Input, Output, Limit, Memory}

pub when_limited : {T : Type 0} {P : Builds Body → Type 0} → (result : Result T FeedFault) → (IsErrOf result Limit → AsRead P) → AsRead (λ builds. IsErrOf result Limit → P builds)
when_limited (Ok x) f = read_all (λ builds sources e. absurd (cc))
when_limited (Err Input) f = read_all (λ builds sources e. absurd (cc))
when_limited (Err Output) f = read_all (λ builds sources e. absurd (cc))
when_limited (Err Memory) f = read_all (λ builds sources e. absurd (cc))
when_limited (Err Limit) f = read_map (λ builds sources p e. p) (f refl)

when_unread : {T : Type 0} {P : Builds Body → Type 0} → (result : Result T FeedFault) → (IsErrOf result Input → AsRead P) → AsRead (λ builds. IsErrOf result Input → P builds)
when_unread (Ok x) f = read_all (λ builds sources e. absurd (cc))
when_unread (Err Input) f = read_map (λ builds sources p e. p) (f refl)
when_unread (Err Output) f = read_all (λ builds sources e. absurd (cc))
when_unread (Err Memory) f = read_all (λ builds sources e. absurd (cc))
when_unread (Err Limit) f = read_all (λ builds sources e. absurd (cc))

-- both together
pub when_stopped : {T : Type 0} {P Q : Builds Body → Type 0} → (result : Result T FeedFault) → (IsErrOf result Limit → AsRead P) → (IsErrOf result Input → AsRead Q) → AsRead (λ builds. (IsErrOf result Limit → P builds) × (IsErrOf result Input → Q builds))
when_stopped result f g = read_both (λ builds sources p q. (p, q)) (when_limited result f) (when_unread result g)
