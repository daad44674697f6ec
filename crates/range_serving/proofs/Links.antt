-- One link that was served.
use Rattle.std.proofs.Common.{◌≡◌, ℕ, inl, inr, true, List, [], ◌∷◌, length, take, Result, Ok, Err, refl, sym, ap, ◌∙◌, subst, arith}
use Rattle.std.specs.Prelude.{IfOk, nat_lt}
use Rattle.std.specs.Io.{StartsWith}
use Rattle.std.proofs.Math.Seq.{take-append_seam}
use Rattle.std.proofs.lemmas.Bool.{lt-ltb}
use Rattle.std.proofs.lemmas.List.{append-nil}
use Rattle.fgb_outside.specs.Source.{Rose}
use Rattle.byte_links.specs.Accept.{IsFresh, Served, served}
use Rattle.byte_links.specs.Link.{LinkState}
use Rattle.range_reply.specs.Heads.{replies}
use Rattle.range_server.specs.declared.receipts.Receipt.{Receipt}
use Rattle.range_server.specs.declared.receipts.ServeError.{ServeError}
use Rattle.range_server.specs.declared.receipts.ServeError.TheVariants as serve
use Rattle.range_server.specs.Serving.{Serves}
use Rattle.range_serving.specs.Entries.{IsServed, SendsFront, Sums}
use Rattle.range_serving.specs.Serving.{outcome_of}
use Rattle.range_serving.proofs.Receipts.{at_most_same, part_receipt, sums_one, whole_receipt}

-- its entry, as the link is given back
pub record Given (image : List ℕ) (entry : Served) (outcome : Result Receipt ServeError) : Type 0 where
  pub front : SendsFront image entry
  pub ok : IfOk (outcome_of outcome) (λ receipt. IsServed image entry × Sums (entry ∷ []) receipt)

starts_whole : (text sent : List ℕ) → sent ≡ text → StartsWith text sent
starts_whole text sent e =
    subst (λ xs. StartsWith xs sent) e (ap (take (length sent)) (sym (append-nil sent)) ∙ take-append_seam sent [])

rose_from : (before now : ℕ) → before ≡ 0 → Rose before now → nat_lt 0 now ≡ true
rose_from before now none rose = lt-ltb 0 now (omega (arith, rose, none))

pub given : (image : List ℕ) (old new : LinkState) (outcome : Result Receipt ServeError) → IsFresh old → (s : Serves image old new outcome)
    → Given image (served new s.received s.sent) outcome
given image old new (Ok receipt) fresh s = record {
  front = starts_whole (replies image s.received) s.sent s.ok.sent_is;
  ok = (
    record {
      sent_is = λ _. s.ok.sent_is;
      over = λ _. elim s.over [ inl rose ↦ inl (rose_from old.ends new.ends fresh.ends rose) | inr finished ↦ inr finished ];
    },
    (let whole = whole_receipt image s.received s.sent (nat_lt 0 new.faults) (nat_lt 0 new.ends) receipt s.ok in
        sums_one (served new s.received s.sent) receipt (at_most_same whole) (λ _. whole)),
  );
}
given image old new (Err (serve.LinkFailed receipt)) fresh s =
    let failed : nat_lt 0 new.faults ≡ true = rose_from old.faults new.faults fresh.faults (s.failed receipt refl) in
    record {
      front = s.front;
      ok = (
        record { sent_is = λ e. cc; over = λ e. cc },
        sums_one (served new s.received s.sent) receipt (part_receipt image s.received s.sent (nat_lt 0 new.faults) (nat_lt 0 new.ends) receipt s.err) (λ e. cc),
      );
    }
given image old new (Err (serve.Memory receipt)) fresh s = record { front = s.front; ok = tt }
