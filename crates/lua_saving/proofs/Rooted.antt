-- A world with other roots is sound where these are valid.
use Rattle.std.proofs.Common.{ℕ, ◌≡◌, ◌<◌, List, [], ◌∷◌, Option, Some, None, refl, subst, map, length}
use Rattle.std.specs.Prelude.{ℤ, slice_get}
use Rattle.int_core.specs.Value.{nil, integer, string, a_table, a_coroutine, Value, known, object}
use Rattle.machine_core.specs.World.{World}
use Rattle.machine_sound.specs.Sound.{Each, sizes, Valid, OptionOk, Solid, standing, ChainOk, idle, Sound}
use Rattle.image_core.proofs.Lists.{none_some}
use Rattle.image_load.specs.Session.{with_roots}
use Rattle.image_saved.proofs.Names.{some_so}

-- no coroutine runs, whichever is the main one
other_main : (W : World) (main : Option ℕ) → W.chain ≡ [] → ChainOk W.main (map standing W.coroutines) W.chain → ChainOk main (map standing W.coroutines) W.chain
other_main W main none c = record {
  first = λ co e. absurd (none_some co (subst (λ (chain : List ℕ). slice_get chain 0 ≡ Some co) none e));
  last_runs = c.last_runs;
  before = c.before;
  running_in = c.running_in;
  normal_in = c.normal_in;
  once = c.once;
  bound = c.bound;
}

module _ (n : ℕ) (Y : World) (s : Solid n Y) (none : Y.chain ≡ []) where
  rooted : (co g : ℕ) (m : Option ℕ) (key : List ℕ) (depth : ℤ) → Valid (sizes n Y) (object a_coroutine co) → Valid (sizes n Y) (object a_table g)
      → OptionOk (λ m. m < length Y.heap.tables) m → Valid (sizes n Y) (known (string key))
      → Sound n (record Y { main = Some co; globals = g; heap = record Y.heap { string_metatable = m }; special_key = key; max_depth = depth })
  rooted co g m key depth a b c d = record {
    solid = record {
      tables = s.tables;
      functions = s.functions;
      cells = s.cells;
      one_each = s.one_each;
      coroutines = s.coroutines;
      chain = other_main Y (Some co) none s.chain;
      moving = s.moving;
      roots = record {
        string_metatable = c;
        globals = b;
        prelude_environment = s.roots.prelude_environment;
        prelude_functions = s.roots.prelude_functions;
        special_key = d;
        main = a;
      };
    };
    rests = idle none;
  }

  pub rooted_sound : (vs : List Value) (X : World) → Each (Valid (sizes n Y)) vs → with_roots vs Y ≡ Some X → Sound n X
  rooted_sound (object a_coroutine co ∷ object a_table g ∷ known nil ∷ known (string key) ∷ known (integer depth) ∷ []) X v e =
      subst (Sound n) (some_so e) (rooted co g None key depth (v 0 (object a_coroutine co) refl) (v 1 (object a_table g) refl) tt (v 3 (known (string key)) refl))
  rooted_sound (object a_coroutine co ∷ object a_table g ∷ object a_table m ∷ known (string key) ∷ known (integer depth) ∷ []) X v e =
      subst (Sound n) (some_so e) (rooted co g (Some m) key depth (v 0 (object a_coroutine co) refl) (v 1 (object a_table g) refl) (v 2 (object a_table m) refl) (v 3 (known (string key)) refl))
  rooted_sound _ X v e = absurd (cc)
