-- Values that are called over a frame that catches errors.
use Rattle.std.proofs.Common.{◌≡◌, ◌++◌, ℕ, suc, List, [], ◌∷◌, length, Option, Some, None, refl, ap, ap₂, sym, ◌∙◌, true, false}
use Rattle.std.specs.Prelude.{drop, map, reverse, filter_map, slice_get}
use Rattle.std.specs.List.{cons_option}
use Rattle.int_core.specs.Limits.{limited, stack_overflow}
use Rattle.int_core.specs.Value.{Value, known, nil, nth, bind}
use Rattle.machine_core.specs.World.{Frame, lua, xpcall, World, Stack, stack_of}
use Rattle.machine_core.specs.Text.{read}
use Rattle.machine_core.specs.FrameRows.{then, blames, over_frame}
use Rattle.machine_core.specs.Moves.{frame_place, where_text, blamed, Over, frame_over, over_pcall, over_xpcall, Row, stop, Ending, asks, raised, run, ends, give_with}
use Rattle.machine_core.specs.MachineStep.{pcall_row, xpcall_row}
use Rattle.table_core.specs.declared.value.Value.{Value as Kept}
use Rattle.table_core.specs.declared.value.Value.TheVariants.{Nil}
use Rattle.lua_heap.specs.declared.world.World.{World as Memory}
use Rattle.lua_heap.specs.Plain.{plain}
use Rattle.lua_heap.specs.Reading.{value}
use Rattle.machine_moves.specs.declared.tops.Over.TheVariants.{Pcall, Xpcall}
use Rattle.machine_moves.specs.Tops.{frame_pushed}
use Rattle.move_laws.specs.Memory.{Leads}
use Rattle.machine_errors.specs.Protected.{first_of}
use Rattle.machine_errors.specs.Asking.{taken, AsksOver}
use Rattle.machine_errors.proofs.Leaving.{with_moving}
use Rattle.machine_errors.proofs.Handled.{takes_first}

-- where a function is does not hang on what moves

place_same : (W : World) (vs : List Value) (f : Frame) → frame_place (with_moving W vs) f ≡ frame_place W f
place_same W vs (lua f) = refl
place_same W vs _ = refl

places_same : (W : World) (vs : List Value) (fs : List Frame) → filter_map (frame_place (with_moving W vs)) fs ≡ filter_map (frame_place W) fs
places_same W vs [] = refl
places_same W vs (f ∷ fs) = ap₂ cons_option (place_same W vs f) (places_same W vs fs)

pub where_same : (W : World) (vs : List Value) (level : ℕ) → where_text (with_moving W vs) level ≡ where_text W level
where_same W vs level = ap (λ (o : Option (List ℕ)). elim o as (λ _. List ℕ) [ None ↦ [] | Some text ↦ text ]) (by (stack_of W))
  where
    by : (o : Option Stack) → bind o (λ s. slice_get (filter_map (frame_place (with_moving W vs)) (reverse s.frames)) level) ≡ bind o (λ s. slice_get (filter_map (frame_place W) (reverse s.frames)) level)
    by None = refl
    by (Some s) = ap (λ l. slice_get l level) (places_same W vs (reverse s.frames))

pub blamed_same : (W : World) (vs : List Value) (text : List ℕ) → blamed (with_moving W vs) text ≡ blamed W text
blamed_same W vs text = ap (λ place. limited (place ++ text)) (where_same W vs 0)

pub blames_taken : (W : Memory) (text : List ℕ) (env : List Value) (fuel : ℕ) → run (blames text) env (taken W fuel) ≡ run (blames text) env (plain W fuel)
blames_taken W text env fuel = ap (λ v. ends raised (with_moving (plain W fuel) (v ∷ []))) (blamed_same (plain W fuel) [] text)

-- what stands behind what was read

pub nth_behind : (env vs : List Value) → nth (env ++ vs) (length env) ≡ nth vs 0
nth_behind [] vs = refl
nth_behind (x ∷ env) vs = nth_behind env vs

pub next_behind : (env vs : List Value) → nth (env ++ vs) (suc (length env)) ≡ nth vs 1
next_behind [] vs = refl
next_behind (x ∷ env) vs = next_behind env vs

drop_behind : (env vs : List Value) → drop (suc (length env)) (env ++ vs) ≡ drop 1 vs
drop_behind [] vs = refl
drop_behind (x ∷ env) vs = drop_behind env vs

drop_both : (env vs : List Value) → drop (suc (suc (length env))) (env ++ vs) ≡ drop 2 vs
drop_both [] vs = refl
drop_both (x ∷ env) vs = drop_both env vs

pub nth_first : (f : Kept → Value) (vs : List Kept) → f Nil ≡ known nil → nth (map f vs) 0 ≡ f (first_of vs)
nth_first f [] e = sym e
nth_first f (v ∷ vs) e = refl

pub nth_second : (f : Kept → Value) (vs : List Kept) → f Nil ≡ known nil → nth (map f vs) 1 ≡ f (first_of (drop 1 vs))
nth_second f [] e = sym e
nth_second f (v ∷ vs) e = nth_first f vs e

pub drop_one : (f : Kept → Value) (vs : List Kept) → drop 1 (map f vs) ≡ map f (drop 1 vs)
drop_one f [] = refl
drop_one f (v ∷ vs) = refl

drop_two : (f : Kept → Value) (vs : List Kept) → drop 2 (map f vs) ≡ map f (drop 2 vs)
drop_two f [] = refl
drop_two f (v ∷ vs) = drop_one f vs

-- the rows

abbrev pub calls_over : Over → (f slot : ℕ) → Row
calls_over over f slot = over_frame over (then (give_with (read f ∷ []) slot) (stop asks))

module _ (old : Memory) where
  abbrev read_by : Kept → Value
  read_by v = value old.strings v

  abbrev moved : List Value
  moved = map read_by old.moving.items

  pcall_same : (asked : List Kept) (env : List Value) → asked ≡ first_of old.moving.items ∷ drop 1 old.moving.items → nth (env ++ moved) (length env) ∷ drop (suc (length env)) (env ++ moved) ≡ map read_by asked
  pcall_same asked env e =
      ap₂ (λ (v : Value) (l : List Value). v ∷ l) (nth_behind env moved ∙ nth_first read_by old.moving.items refl) (drop_behind env moved ∙ drop_one read_by old.moving.items)
      ∙ sym (ap (map read_by) e)

  xpcall_same : (asked : List Kept) (env : List Value) → asked ≡ first_of old.moving.items ∷ drop 2 old.moving.items → nth (env ++ moved) (length env) ∷ drop (suc (suc (length env))) (env ++ moved) ≡ map read_by asked
  xpcall_same asked env e =
      ap₂ (λ (v : Value) (l : List Value). v ∷ l) (nth_behind env moved ∙ nth_first read_by old.moving.items refl) (drop_both env moved ∙ drop_two read_by old.moving.items)
      ∙ sym (ap (map read_by) e)

  handler_same : (catching : Kept) (env : List Value) → catching ≡ first_of (drop 1 old.moving.items) → frame_over (over_xpcall (read (suc (length env)))) (env ++ moved) ≡ frame_pushed read_by (Xpcall catching)
  handler_same catching env e = ap xpcall (next_behind env moved ∙ nth_second read_by old.moving.items refl ∙ ap read_by (sym e))

  pub pcall_asks : (new : Memory) (asked : List Kept) (env : List Value) → AsksOver old new Pcall asked true → asked ≡ first_of old.moving.items ∷ drop 1 old.moving.items → Leads pcall_row env old new asks
  pcall_asks new asked env a e = record {
    is = λ fuel.
        takes_first old (λ f _. calls_over over_pcall f (suc f)) env fuel
        ∙ a.there refl over_pcall (env ++ moved) (read (length env) ∷ []) (suc (length env)) (blames stack_overflow) refl (pcall_same asked env e) fuel;
  }

  pub pcall_fails : (full new : Memory) (asked : List Kept) (env : List Value) (ending : Ending) → AsksOver old full Pcall asked false → ((env : List Value) → Leads (blames stack_overflow) env full new ending)
      → Leads pcall_row env old new ending
  pcall_fails full new asked env ending a b = record {
    is = λ fuel.
        takes_first old (λ f _. calls_over over_pcall f (suc f)) env fuel
        ∙ a.full refl over_pcall (env ++ moved) (then (give_with (read (length env) ∷ []) (suc (length env))) (stop asks)) (blames stack_overflow) refl fuel
        ∙ blames_taken full stack_overflow (env ++ moved) fuel
        ∙ (b (env ++ moved)).is fuel;
  }

  pub xpcall_asks : (new : Memory) (catching : Kept) (asked : List Kept) (env : List Value) → AsksOver old new (Xpcall catching) asked true → catching ≡ first_of (drop 1 old.moving.items)
      → asked ≡ first_of old.moving.items ∷ drop 2 old.moving.items → Leads xpcall_row env old new asks
  xpcall_asks new catching asked env a h e = record {
    is = λ fuel.
        takes_first old (λ f _. calls_over (over_xpcall (read (suc f))) f (suc (suc f))) env fuel
        ∙ a.there refl (over_xpcall (read (suc (length env)))) (env ++ moved) (read (length env) ∷ []) (suc (suc (length env))) (blames stack_overflow) (handler_same catching env h) (xpcall_same asked env e) fuel;
  }

  pub xpcall_fails : (full new : Memory) (catching : Kept) (asked : List Kept) (env : List Value) (ending : Ending) → AsksOver old full (Xpcall catching) asked false → catching ≡ first_of (drop 1 old.moving.items)
      → ((env : List Value) → Leads (blames stack_overflow) env full new ending) → Leads xpcall_row env old new ending
  xpcall_fails full new catching asked env ending a h b = record {
    is = λ fuel.
        takes_first old (λ f _. calls_over (over_xpcall (read (suc f))) f (suc (suc f))) env fuel
        ∙ a.full refl (over_xpcall (read (suc (length env)))) (env ++ moved) (then (give_with (read (length env) ∷ []) (suc (suc (length env)))) (stop asks)) (blames stack_overflow) (handler_same catching env h) fuel
        ∙ blames_taken full stack_overflow (env ++ moved) fuel
        ∙ (b (env ++ moved)).is fuel;
  }
