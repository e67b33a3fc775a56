-- Every move that a row may make in a phase does not trap there, and leaves what is known behind it.
use Rattle.std.proofs.Common.{ℕ, List, Option}
use Rattle.int_core.specs.Value.{Value}
use Rattle.machine_core.specs.World.{World}
use Rattle.machine_core.specs.Text.{read_upvalue, write_upvalue, make_table, make_function, fill_table, pay}
use Rattle.machine_core.specs.Moves.{Move, on_own, move_pc, open_register, outside, settle, enter, enter_tail, await, find_close, is_closable, begin_leaving, leave_frame, take_moving, look, give, give_with, blame, place_text, push_frame, call_value, see_top, see_catcher, pop_frame, take_closing, set_error, end_coroutine, fail_coroutine, suspend, resume, begin_closing, consult, create, see_status, see_running, print, make_loaded, TopShape}
use Rattle.machine_sound.specs.Sound.{Top}
use Rattle.machine_sound.specs.Safe.{on_lua, waiting, in_resumed, handing, Is, Ready, MoveGood, MovesGood, RowsGood}
use Rattle.machine_sound.proofs.Moves.{own_move, pc_move}
use Rattle.machine_sound.proofs.Outside.{settle_move, find_close_move, is_closable_move, take_moving_move, make_table_move, fill_table_move, pay_move}
use Rattle.machine_sound.proofs.Cells.{read_upvalue_move, open_register_move, make_function_move}
use Rattle.machine_sound.proofs.Writes.{write_upvalue_move}
use Rattle.machine_sound.proofs.Calls.{enter_move, enter_tail_move, await_move, leave_move, begin_leaving_move}
use Rattle.machine_sound.proofs.WaitingMoves.{see_top_waits, see_catcher_waits, take_moving_waits, look_waits, give_waits, give_with_waits, blame_waits, find_close_waits, place_text_waits, push_frame_waits, call_value_waits, pop_frame_waits, take_closing_waits, set_error_waits}
use Rattle.machine_sound.proofs.CoroutineMoves.{end_coroutine_waits, suspend_waits, resume_waits, fail_resumed, fail_waits, take_moving_resumed, see_top_handing}
use Rattle.machine_sound.proofs.Closings.{begin_closing_waits}
use Rattle.machine_sound.proofs.Looks.{consult_waits}
use Rattle.machine_sound.proofs.NewCoroutines.{create_waits, see_status_waits, see_running_waits, print_waits}
use Rattle.machine_sound.proofs.NewFunctions.{make_loaded_waits}
use Rattle.machine_sound.proofs.Rows.{rows_good}

lua_moves : (n : ℕ) (m : Move) (t : Top) (env : List Value) (W : World) → Is n (on_lua t) env W → Ready (on_lua t) env m → MoveGood n (on_lua t) env m W
lua_moves n (on_own m) t env W i r = own_move n m t env W i r
lua_moves n (move_pc z) t env W i r = pc_move n z t env W i r
lua_moves n (open_register k) t env W i r = open_register_move n k t env W i r
lua_moves n (outside (read_upvalue u)) t env W i r = read_upvalue_move n u t env W i r
lua_moves n (outside (write_upvalue u x)) t env W i r = write_upvalue_move n u x t env W i r
lua_moves n (outside make_table) t env W i r = make_table_move n t env W i r
lua_moves n (outside (make_function m)) t env W i r = make_function_move n m t env W i r
lua_moves n (outside (fill_table x last slot)) t env W i r = fill_table_move n x last slot t env W i r
lua_moves n (outside pay) t env W i r = pay_move n t env W i r
lua_moves n (settle op xs) t env W i r = settle_move n op xs t env W i r
lua_moves n (enter f slot wait prepared) t env W i r = enter_move n f slot wait prepared t env W i r
lua_moves n (enter_tail f slot) t env W i r = enter_tail_move n f slot t env W i r
lua_moves n (await f slot wait prepared) t env W i r = await_move n f slot wait prepared t env W i r
lua_moves n (find_close v e) t env W i r = find_close_move n v e t env W i r
lua_moves n (is_closable v) t env W i r = is_closable_move n v t env W i
lua_moves n (begin_leaving text) t env W i r = begin_leaving_move n text t env W i r
lua_moves n (leave_frame given) t env W i r = leave_move n given t env W i r
lua_moves n take_moving t env W i r = take_moving_move n t env W i
lua_moves n _ t env W i r = absurd r

waiting_moves : (n : ℕ) (m : Move) (s : Option TopShape) (env : List Value) (W : World) → Is n (waiting s) env W → Ready (waiting s) env m → MoveGood n (waiting s) env m W
waiting_moves n see_top s env W i r = see_top_waits n s env W i r
waiting_moves n see_catcher s env W i r = see_catcher_waits n s env W i r
waiting_moves n take_moving s env W i r = take_moving_waits n s env W i r
waiting_moves n (look x) s env W i r = look_waits n x s env W i r
waiting_moves n (give xs) s env W i r = give_waits n xs s env W i r
waiting_moves n (give_with xs slot) s env W i r = give_with_waits n xs slot s env W i r
waiting_moves n (blame text) s env W i r = blame_waits n text s env W i r
waiting_moves n (find_close v e) s env W i r = find_close_waits n v e s env W i r
waiting_moves n (place_text x level) s env W i r = place_text_waits n x level s env W i r
waiting_moves n (push_frame over) s env W i r = push_frame_waits n over s env W i r
waiting_moves n (call_value f slot) s env W i r = call_value_waits n f slot s env W i r
waiting_moves n pop_frame s env W i r = pop_frame_waits n s env W i r
waiting_moves n take_closing s env W i r = take_closing_waits n s env W i r
waiting_moves n (set_error x) s env W i r = set_error_waits n x s env W i r
waiting_moves n end_coroutine s env W i r = end_coroutine_waits n s env W i r
waiting_moves n (fail_coroutine x) s env W i r = fail_waits n x s env W i r
waiting_moves n suspend s env W i r = suspend_waits n s env W i r
waiting_moves n (resume x slot) s env W i r = resume_waits n x slot s env W i r
waiting_moves n (begin_closing x) s env W i r = begin_closing_waits n x s env W i r
waiting_moves n (consult l slot) s env W i r = consult_waits n l slot s env W i r
waiting_moves n (create x) s env W i r = create_waits n x s env W i r
waiting_moves n (see_status x) s env W i r = see_status_waits n x s env W i r
waiting_moves n see_running s env W i r = see_running_waits n s env W i r
waiting_moves n (print x) s env W i r = print_waits n x s env W i r
waiting_moves n (make_loaded p x) s env W i r = make_loaded_waits n p x s env W i r
waiting_moves n _ s env W i r = absurd r

resumed_moves : (n : ℕ) (m : Move) (env : List Value) (W : World) → Is n in_resumed env W → Ready in_resumed env m → MoveGood n in_resumed env m W
resumed_moves n take_moving env W i r = take_moving_resumed n env W i
resumed_moves n (fail_coroutine x) env W i r = fail_resumed n x env W i r
resumed_moves n _ env W i r = absurd r

handing_moves : (n : ℕ) (m : Move) (env : List Value) (W : World) → Is n handing env W → Ready handing env m → MoveGood n handing env m W
handing_moves n see_top env W i r = see_top_handing n env W i
handing_moves n _ env W i r = absurd r

pub moves_good : MovesGood
moves_good n m (on_lua t) env W i r = lua_moves n m t env W i r
moves_good n m (waiting s) env W i r = waiting_moves n m s env W i r
moves_good n m in_resumed env W i r = resumed_moves n m env W i r
moves_good n m handing env W i r = handing_moves n m env W i r
moves_good n m _ env W i r = absurd r

pub all_rows_good : RowsGood
all_rows_good = rows_good moves_good
