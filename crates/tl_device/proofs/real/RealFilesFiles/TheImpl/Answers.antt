-- What every store owes, at one that tells no content.
use Rattle.std.proofs.Common.{IfOk, OnErr, Result, Ok, Err, refl}
use Rattle.tl_device.proofs.real.RealFilesFiles.TheImpl.Goals as goal

always_ok : {A E : Type 0} (P : A → Type 0) (result : Result A E) → ((value : A) → P value) → IfOk result P
always_ok P (Ok value) always = always value
always_ok P (Err error) always = tt

always_err : {A E : Type 0} (P : Type 0) (result : Result A E) → P → OnErr result P
always_err P (Ok value) always = tt
always_err P (Err error) always = always

pub read-tells : goal.read-tells
read-tells g c = record {
  bound = c.ensures.bound;
  front = always_ok _ c.result (λ _ told. absurd (cc));
  end = always_ok _ c.result (λ _ _ _ _. refl);
  nothing = always_err _ c.result refl;
  taken = c.ensures.taken;
  none_taken = c.ensures.none_taken;
  cause = c.ensures.cause;
  files = refl;
  asked = refl;
  begun = c.ensures.begun;
  reading = refl;
  created = c.ensures.created;
  writing = refl;
  write_faults = c.ensures.write_faults;
}

pub write-tells : goal.write-tells
write-tells g c = record {
  bound = c.ensures.bound;
  progress = c.ensures.progress;
  ok = always_ok _ c.result (λ _. refl);
  err = always_err _ c.result refl;
  held = tt;
  cause = c.ensures.cause;
  asked = refl;
  created = c.ensures.created;
  writing = refl;
  begun = c.ensures.begun;
  reading = refl;
  rest = λ _. refl;
  taken = c.ensures.taken;
  read_faults = c.ensures.read_faults;
}
