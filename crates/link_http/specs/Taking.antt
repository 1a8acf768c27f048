-- What a body that was taken comes to.
use Rattle.std.specs.Prelude.{◌≡◌, ◌≢◌, ℕ, ◌⊎◌, Bool, true, not, IsTrue, IsFalse, false, List, [], ◌++◌, Result, Ok, Err, Option}
use Rattle.std.specs.Option.{option_or}
use Rattle.folder_base.specs.Took.{TookSome}
use Rattle.text_base.specs.declared.faults.FolderCall.{FolderCall}
use Rattle.folder_base.specs.declared.store_fault.StoreFault.{StoreFault}
use Rattle.folder_base.specs.declared.store_fault.StoreFault.TheVariants as store
use Rattle.http_reply.specs.declared.piece_fault.PieceFault.{PieceFault}
use Rattle.http_reply.specs.declared.piece_fault.PieceFault.TheVariants.{Recv, Folder, OutOfMemory}
use Rattle.http_reply.specs.Faults.{is_broken, is_call}
use Rattle.http_reply.specs.Verdict.{Verdict, IsVerdict}
use Rattle.link_http.specs.declared.fetched.Fetched.{Fetched}
use Rattle.link_http.specs.declared.body_fault.BodyFault.{BodyFault}
use Rattle.link_http.specs.declared.body_fault.BodyFault.TheVariants as body

-- whether the answer is a total or what the reply gives
abbrev pub is_judged : Result Fetched PieceFault → Bool
is_judged (Ok fetched) = true
is_judged (Err fault) = not (is_broken fault)

-- the total, or the cause
abbrev pub as_end : Result Fetched PieceFault → Result ℕ PieceFault
as_end (Ok fetched) = Ok fetched.total
as_end (Err fault) = Err fault

-- whether the answer names a failed call of the dialer
abbrev pub names_call : {A : Type 0} → Result A PieceFault → Bool
names_call (Ok a) = false
names_call (Err fault) = is_call fault

-- the answer to what a taker refused
abbrev pub of_store : StoreFault → PieceFault
of_store (store.Folder call) = Folder call
of_store store.OutOfMemory = OutOfMemory

-- the answer to a call that failed while a body was taken
abbrev pub of_body : BodyFault → PieceFault
of_body body.Recv = Recv
of_body (body.Store fault) = of_store fault

-- what is known after a try: where no call failed, the total that was told if none was known; otherwise that, or what
-- was known
abbrev pub Tells : Option ℕ → Type 0 → Result Fetched PieceFault → Option ℕ → Option ℕ → Type 0
Tells told tells result known known' =
    (IsTrue (is_judged result) → tells → known' ≡ option_or known told)
    × (IsFalse (is_judged result) → (known' ≡ known) ⊎ (known' ≡ option_or known told))

module _ {T : Type 0} (took : T → List ℕ → T → Type 0) (may_refuse : T → List ℕ → StoreFault → Type 0) where
  -- what the fault says of the taker and of the piece that it was given last
  abbrev pub IsRefusal : PieceFault → T → List ℕ → Type 0
  IsRefusal fault between piece =
      ((piece ≡ []) × ((call : FolderCall) → fault ≢ Folder call))
      ⊎ ((store : StoreFault) × (fault ≡ of_store store) × may_refuse between piece store)

  -- A call failed: some bytes were taken, and a piece that was refused stands next.
  pub record Broke (fault : PieceFault) (t u : T) : Type 0 where
    pub bytes : List ℕ
    pub between : T
    pub piece : List ℕ
    pub taken : took t bytes between
    pub some : TookSome took between piece u
    pub why : IsRefusal fault between piece

  -- what was put: these bytes, or some of them and then the piece that was refused
  abbrev pub Keeps : Result Fetched PieceFault → T → T → Type 0
  Keeps (Ok fetched) t u = (bytes : List ℕ) × took t bytes u
  Keeps (Err fault) t u = Broke fault t u

  -- A body was taken. Where no call failed, the bytes and the answer are the verdict's; otherwise the bytes are a
  -- front of the verdict's, as far as the dialer tells.
  pub record Takes (verdict : Verdict) (tells : Type 0) (result : Result Fetched PieceFault) (t u : T) : Type 0 where
    pub judged : IsTrue (is_judged result) → (bytes : List ℕ) × took t bytes u
        × (tells → (verdict.bytes ≡ bytes) × (verdict.end ≡ as_end result))
    pub broken : (fault : PieceFault) → result ≡ Err fault → IsTrue (is_broken fault) → (broke : Broke fault t u)
        × (tells → (more : List ℕ) × (verdict.bytes ≡ broke.bytes ++ (broke.piece ++ more)))

  -- A reply was read. Where no call failed, the bytes, the answer and what is known are those of its verdict; otherwise
  -- the bytes are a front of the verdict's, with the refused piece next, and what is known is as it was or the verdict's.
  pub record Follows (tells : Type 0) (from : ℕ) (known : Option ℕ) (reply : List ℕ) (result : Result Fetched PieceFault)
      (t : T) (known' : Option ℕ) (u : T) : Type 0 where
    pub judged : IsTrue (is_judged result) → (bytes : List ℕ) × took t bytes u
        × (tells → (verdict : Verdict) × IsVerdict from known reply verdict
        × (verdict.bytes ≡ bytes) × (verdict.end ≡ as_end result) × (known' ≡ option_or known verdict.told))
    pub broken : (fault : PieceFault) → result ≡ Err fault → IsTrue (is_broken fault) → (broke : Broke fault t u)
        × (tells → (verdict : Verdict) → IsVerdict from known reply verdict
        → ((more : List ℕ) × (verdict.bytes ≡ broke.bytes ++ (broke.piece ++ more)))
        × ((known' ≡ known) ⊎ (known' ≡ option_or known verdict.told)))
