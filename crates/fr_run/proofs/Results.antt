-- What follows of a value or of an error.
use Rattle.std.proofs.Common.{Result, Ok, Err, IfOk, IfErr}

pub ok_map : {T E : Type 0} (r : Result T E) (F G : T → Type 0) → ((t : T) → F t → G t) → IfOk r F → IfOk r G
ok_map (Ok t) F G h k = h t k
ok_map (Err e) F G h k = tt

pub err_map : {T E : Type 0} (r : Result T E) (F G : E → Type 0) → ((e : E) → F e → G e) → IfErr r F → IfErr r G
err_map (Ok t) F G h k = tt
err_map (Err e) F G h k = h e k

pub ok_both : {T E : Type 0} (r : Result T E) (F G H : T → Type 0) → ((t : T) → F t → G t → H t) → IfOk r F → IfOk r G → IfOk r H
ok_both (Ok t) F G H h f g = h t f g
ok_both (Err e) F G H h f g = tt
