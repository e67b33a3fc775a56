-- What chains of handlers lead to, in the words of the definitions.
use Rattle.std.specs.Prelude.{◌≡◌, ℕ, zero, suc, List, [], ◌∷◌}
use Rattle.int_core.specs.Heap.{Heap, raw_get}
use Rattle.int_core.specs.Operations.{Settled, ask, fault, of_call, handler_in, indexed, set_raw, stored, Callee, callee, not_callable}
use Rattle.int_core.specs.Value.{Value, object, a_table}
use Rattle.lua_heap.specs.Reading.{value}
use Rattle.meta_ops.specs.declared.callee.Callee.{Callee as CalleeFound}
use Rattle.meta_ops.specs.declared.callee.Callee.TheVariants.{Function, Fault as CallFault}
use Rattle.meta_ops.specs.declared.index.Link.{Link}
use Rattle.meta_ops.specs.declared.index.Link.TheVariants.{Settled as LinkSettled, Follow as LinkFollows}
use Rattle.meta_ops.specs.declared.store.Stored.{Stored}
use Rattle.meta_ops.specs.declared.store.Stored.TheVariants.{Raw, Ask as StoreAsks, Fault as StoreFault}
use Rattle.meta_ops.specs.declared.store.StoreLink.{StoreLink}
use Rattle.meta_ops.specs.declared.store.StoreLink.TheVariants.{Settled as StoreSettled, Follow as StoreFollows}
use Rattle.meta_ops.specs.Outcome.{fault_text, settled}

-- one link of `__index`: it is settled, or goes on to the handler
abbrev pub IndexGoes : List (List ℕ) → Heap → Value → Value → Link → Type 0
IndexGoes texts H o key (LinkSettled outcome) = (follow : Value → Settled) → indexed H o (raw_get H o key) follow ≡ settled texts H (key ∷ []) outcome
IndexGoes texts H o key (LinkFollows handler) = (follow : Value → Settled) → indexed H o (raw_get H o key) follow ≡ follow (value texts handler)

-- `__newindex`

abbrev pub stored_as : List (List ℕ) → Heap → Value → Value → Stored → Settled
stored_as texts H key v (Raw id) = set_raw H (object a_table id.0) key v
stored_as texts H key v (StoreAsks handler o) = ask (value texts handler) (value texts o ∷ key ∷ v ∷ [])
stored_as texts H key v (StoreFault cause) = fault (fault_text texts cause)

abbrev pub StoreGoes : List (List ℕ) → Heap → Value → Value → StoreLink → Type 0
StoreGoes texts H o key (StoreSettled answer) = (v : Value) (follow : Value → Settled) → stored H o key v (raw_get H o key) follow ≡ stored_as texts H key v answer
StoreGoes texts H o key (StoreFollows handler) = (v : Value) (follow : Value → Settled) → stored H o key v (raw_get H o key) follow ≡ follow (value texts handler)

-- `__call`

-- the value that is called after so many links
abbrev pub linked : ℕ → Heap → Value → Value
linked zero H f = f
linked (suc links) H f = handler_in H of_call (linked links H f)

-- and its arguments: each link puts the value from which it leads in front
abbrev pub through : ℕ → Heap → Value → List Value → List Value
through zero H f arguments = arguments
through (suc links) H f arguments = linked links H f ∷ through links H f arguments

abbrev pub called_as : List (List ℕ) → Heap → Value → List Value → CalleeFound → Callee
called_as texts H f arguments (Function g links) = callee (value texts g) (through links H f arguments)
called_as texts H f arguments (CallFault cause) = not_callable (fault_text texts cause)
