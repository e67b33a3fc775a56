-- A text that is safe where its calls are done at once is safe where they are asked for.
use Rattle.std.proofs.Common.{ℕ, suc, List, [], ◌∷◌, ◌++◌, length, Bool, true, false}
use Rattle.std.specs.Prelude.{cond, codes}
use Rattle.int_core.specs.Value.{Value}
use Rattle.machine_core.specs.World.{Wait}
use Rattle.machine_core.specs.Text.{Arg, read, Own, read_upvalue, write_upvalue, make_table, make_function, fill_table, pay, Text, own, open_cell, quick, operate, call, close, closable}
use Rattle.machine_core.specs.Moves.{SettledShape, is_found, is_asked, is_fault, spent, Row, stop, only}
use Rattle.machine_core.specs.FrameRows.{expand, goes_on_by, prepares, raises, call_row, ask_row}
use Rattle.machine_sound.specs.Safe.{Phase, on_lua, Safe}

call_asked : (x : Phase) (env : List Value) (f : Arg) (slot : ℕ) (wait : Wait Arg) (prepared : List Own) → Safe x env (call_row f slot wait prepared) → Safe x env (ask_row f slot wait prepared)
call_asked (on_lua t) env f slot wait prepared s = (s.0, λ _. tt)
call_asked _ env f slot wait prepared s = absurd s.0

prepared_asked : (ps : List Own) (r q : Row) → ((x : Phase) (env : List Value) → Safe x env r → Safe x env q) → (x : Phase) (env : List Value) → Safe x env (prepares ps r) → Safe x env (prepares ps q)
prepared_asked [] r q h x env s = h x env s
prepared_asked (m ∷ ps) r q h x env s = (s.0, λ e. prepared_asked ps r q h _ _ (s.1 e))

paid_asked : (b : Bool) (r q : Row) (x : Phase) (env : List Value) → (Safe x env r → Safe x env q) → Safe x env (cond b r (stop spent)) → Safe x env (cond b q (stop spent))
paid_asked true r q x env h s = h s
paid_asked false r q x env h s = s

pub asking_safe : (t : Text) (x : Phase) (env : List Value) → Safe x env (expand t) → Safe x env (goes_on_by t)
asking_safe (own m k) x env s = (s.0, λ e. asking_safe (k _ _) _ _ (s.1 e))
asking_safe (open_cell r t) x env s = (s.0, λ e. asking_safe t _ _ (s.1 e))
asking_safe (quick (read_upvalue u) k) x env s = (s.0, λ e. asking_safe (k _) _ _ (s.1 e))
asking_safe (quick (write_upvalue u y) k) x env s = (s.0, λ e. asking_safe (k _) _ _ (s.1 e))
asking_safe (quick make_table k) x env s = (s.0, λ e. asking_safe (k _) _ _ (s.1 e))
asking_safe (quick (make_function n) k) x env s = (s.0, λ e. asking_safe (k _) _ _ (s.1 e))
asking_safe (quick (fill_table y last slot) k) x env s = (s.0, λ e. asking_safe (k _) _ _ (s.1 e))
asking_safe (quick pay k) x env s = (s.0, λ e. paid_asked _ (expand (k (length env))) (goes_on_by (k (length env))) _ _ (λ s. asking_safe (k _) _ _ s) (s.1 e))
asking_safe (operate op xs wait prepared t) x env s = (s.0, λ e. from _ _ _ (λ x env s. asking_safe t x env s) (s.1 e))
  where
    from : (told : SettledShape) (x : Phase) (env' : List Value) → ((x : Phase) (env : List Value) → Safe x env (expand t) → Safe x env (goes_on_by t))
        → Safe x env' (elim told as (λ _. Row) [ is_found ↦ prepares prepared (only (length env) (expand t)) | is_asked ↦ call_row (read (length env)) (suc (length env)) wait prepared | is_fault text ↦ prepares prepared (raises text) ])
        → Safe x env' (elim told as (λ _. Row) [ is_found ↦ prepares prepared (only (length env) (goes_on_by t)) | is_asked ↦ ask_row (read (length env)) (suc (length env)) wait prepared | is_fault text ↦ prepares prepared (raises text) ])
    from is_found x env' h s = prepared_asked prepared (only (length env) (expand t)) (only (length env) (goes_on_by t)) (λ x e s. h x _ s) x env' s
    from is_asked x env' h s = call_asked x env' (read (length env)) (suc (length env)) wait prepared s
    from (is_fault text) x env' h s = s
asking_safe (call f slot wait prepared) x env s = call_asked x env f slot wait prepared s
asking_safe (close v e wait prepared) x env s = (s.0, λ h. call_asked _ _ (read (length env)) (suc (length env)) wait prepared (s.1 h))
asking_safe (closable v name t) x env s = (s.0, λ e. from _ _ _ (λ x env s. asking_safe t x env s) (s.1 e))
  where
    from : (yes : Bool) (x : Phase) (env' : List Value) → ((x : Phase) (env : List Value) → Safe x env (expand t) → Safe x env (goes_on_by t))
        → Safe x env' (cond yes (expand t) (raises (codes "variable '" ++ name ++ codes "' got a non-closable value"))) → Safe x env' (cond yes (goes_on_by t) (raises (codes "variable '" ++ name ++ codes "' got a non-closable value")))
    from true x env' h s = h x env' s
    from false x env' h s = s
asking_safe _ x env s = s
