-- An operation that is settled in memory.
use Rattle.std.proofs.Common.{◌≡◌, ℕ, List, refl, ap, sym, subst, ◌∙◌, false, Result, Ok, Err, OnOk, OnErr}
use Rattle.int_core.specs.Value.{Value}
use Rattle.int_core.specs.Operations.{does}
use Rattle.machine_core.specs.World.{Place, place_of}
use Rattle.machine_core.specs.Text.{args_of}
use Rattle.machine_core.specs.Moves.{settled as settled_in, made}
use Rattle.machine_sound.proofs.Lists.{bind_at}
use Rattle.object_pool.specs.Pool.{Pool}
use Rattle.table_core.specs.Table.{Contents}
use Rattle.lua_heap.specs.declared.world.World.{World as Memory}
use Rattle.lua_heap.specs.Plain.{plain}
use Rattle.meta_ops.specs.declared.operation.Operation.{Operation}
use Rattle.meta_ops.specs.declared.operation.Operation.TheVariants.{Concat}
use Rattle.meta_ops.specs.declared.outcome.Outcome.{Outcome}
use Rattle.meta_ops.specs.declared.outcome.Outcome.TheVariants.{Found, Done, Ask, Fault}
use Rattle.meta_ops.specs.Heap.{heap_in}
use Rattle.meta_ops.specs.Operation.{kind_of, operands_of, more_of, strings_after}
use Rattle.meta_ops.specs.Outcome.{settled, is_done}
use Rattle.move_laws.specs.Memory.{HasFrame}
use Rattle.machine_moves.specs.Operations.{joins, values_of, told_of, Settles}

strings_stay : (texts : List (List ℕ)) (operation : Operation) → joins operation ≡ false → strings_after texts operation ≡ texts
strings_stay texts (Concat left right) e = absurd (cc)
strings_stay texts _ e = refl

pub strings_same : {B E : Type 0} (P : Type 0) (r : Result B E) (texts texts' : List (List ℕ)) (operation : Operation) → joins operation ≡ false → OnOk r (texts' ≡ strings_after texts operation)
    → OnErr r ((texts' ≡ texts) × P) → texts' ≡ texts
strings_same P (Ok b) texts texts' operation j e f = e ∙ strings_stay texts operation j
strings_same P (Err x) texts texts' operation j e f = f.0

settled_world : (old : Memory) (tables : Pool Contents) (p : Place) (fuel : ℕ) (more : List Value) (o : Outcome) → (is_done o ≡ false → tables ≡ old.tables)
    → settled_in (plain old fuel) p (settled old.strings (heap_in old.strings tables.objects old.string_meta) more o)
    ≡ made (plain (record old { tables = tables }) fuel) (values_of old.strings more o) (told_of old.strings o)
settled_world old tables p fuel more (Found v) t = refl
settled_world old tables p fuel more Done t = refl
settled_world old tables p fuel more (Ask handler first) t =
    ap (λ ts. made (plain (record old { tables = ts }) fuel) (values_of old.strings more (Ask handler first)) (told_of old.strings (Ask handler first))) (sym (t refl))
settled_world old tables p fuel more (Fault cause) t =
    ap (λ ts. made (plain (record old { tables = ts }) fuel) (values_of old.strings more (Fault cause)) (told_of old.strings (Fault cause))) (sym (t refl))

settles_so : (old : Memory) (tables : Pool Contents) (operation : Operation) (o : Outcome) → HasFrame old
    → does (kind_of operation) (operands_of old.strings operation) (heap_in old.strings old.tables.objects old.string_meta) ≡ settled old.strings (heap_in old.strings tables.objects old.string_meta) (more_of old.strings operation) o
    → (is_done o ≡ false → tables ≡ old.tables) → Settles old (record old { tables = tables }) operation o
settles_so old tables operation o h d t = record {
  makes = λ env xs e. record {
    is = λ fuel.
        let V = plain old fuel in
        bind_at (λ p. settled_in V p (does (kind_of operation) (args_of env xs) V.heap)) (place_of V) h.place h.is
        ∙ ap (λ vs. settled_in V h.place (does (kind_of operation) vs V.heap)) e
        ∙ ap (settled_in V h.place) d
        ∙ settled_world old tables h.place fuel (more_of old.strings operation) o t;
  };
}

pub settles : (old : Memory) (tables : Pool Contents) (texts : List (List ℕ)) (operation : Operation) (o : Outcome) → HasFrame old → texts ≡ old.strings
    → does (kind_of operation) (operands_of old.strings operation) (heap_in old.strings old.tables.objects old.string_meta) ≡ settled texts (heap_in old.strings tables.objects old.string_meta) (more_of old.strings operation) o
    → (is_done o ≡ false → tables ≡ old.tables) → Settles old (record old { strings = texts; tables = tables }) operation o
settles old tables texts operation o h s d t =
    subst (λ texts. Settles old (record old { strings = texts; tables = tables }) operation o) (sym s)
    (settles_so old tables operation o h (d ∙ ap (λ texts. settled texts (heap_in old.strings tables.objects old.string_meta) (more_of old.strings operation) o) s) t)
