-- What the machine is told of frames, read from how they are kept.
use Rattle.std.proofs.Common.{◌≡◌, List, [], ◌∷◌, length, map, Option, Some, refl, ap, sym, ◌∙◌}
use Rattle.std.specs.Prelude.{option_map, reverse, slice_get}
use Rattle.std.proofs.lemmas.List.{length-map}
use Rattle.int_core.specs.Value.{Value, last}
use Rattle.machine_core.specs.Moves.{catcher}
use Rattle.table_core.specs.declared.value.Value.{Value as Kept}
use Rattle.lua_stack.specs.declared.frame.Top.{Top}
use Rattle.lua_stack.specs.Frames.{KeptFrame, kept_lua, kept_pcall, kept_xpcall, kept_handler, kept_closing, KeptStack, IsTop, Tells, frames, frame_of, kept_catcher, top_is}
use Rattle.lua_stack.proofs.ClosingTop.{reverse_map}
use Rattle.lua_stack.proofs.Pushed.{get_map}

kept_tells : (k : Option KeptFrame) → Tells (top_is k) (λ f. option_map (frame_of f) k)
kept_tells (Some (kept_closing error left)) = record { shape = λ f W. refl; handlers = λ f. refl }
kept_tells _ = record { shape = λ f W. refl; handlers = λ f. refl }

tells_as : (top : Top) (k : Option KeptFrame) (frame : (Kept → Value) → Option _) → top ≡ top_is k → ((f : Kept → Value) → frame f ≡ option_map (frame_of f) k) → Tells top frame
tells_as top k frame e h = record {
  shape = λ f W. ap (Rattle.machine_core.specs.Moves.top_shape W) (h f) ∙ (kept_tells k).shape f W ∙ ap (Rattle.lua_stack.specs.Frames.shape_of (Rattle.machine_core.specs.Moves.runs_main W)) (sym e);
  handlers = λ f. ap Rattle.machine_core.specs.Moves.handler_value (h f) ∙ (kept_tells k).handlers f ∙ ap (Rattle.lua_stack.specs.Frames.handlers_of f) (sym e);
}

pub last_map : {A B : Type 0} (f : A → B) (xs : List A) → last (map f xs) ≡ option_map f (last xs)
last_map f [] = refl
last_map f (x ∷ xs) = let n = length-map xs f in ap (slice_get (f x ∷ map f xs)) n ∙ get_map f (x ∷ xs) (length xs)

catcher_map : (f : Kept → Value) (ks : List KeptFrame) → catcher (map (frame_of f) ks) ≡ option_map (frame_of f) (kept_catcher ks)
catcher_map f [] = refl
catcher_map f (kept_lua t ∷ ks) = catcher_map f ks
catcher_map f (kept_pcall ∷ ks) = refl
catcher_map f (kept_xpcall h ∷ ks) = refl
catcher_map f (kept_handler ∷ ks) = refl
catcher_map f (kept_closing error left ∷ ks) = refl

pub top_tells : (s : KeptStack) (top : Top) → IsTop s top → Tells top (λ f. last (frames f s))
top_tells s top e = tells_as top (last s.frames) (λ f. last (frames f s)) e (λ f. last_map (frame_of f) s.frames)

pub catcher_tells : (s : KeptStack) (top : Top) → top ≡ top_is (kept_catcher (reverse s.frames)) → Tells top (λ f. catcher (reverse (frames f s)))
catcher_tells s top e =
    tells_as top (kept_catcher (reverse s.frames)) (λ f. catcher (reverse (frames f s))) e (λ f. ap catcher (reverse_map (frame_of f) s.frames) ∙ catcher_map f (reverse s.frames))
