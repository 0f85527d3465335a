-- Calls that read some files of a shelf, one after the other.
use Rattle.std.proofs.Common.{◌≡◌, ◌∙◌, inl, inr, ℕ, List, [], ◌∷◌, Option, Some, None, IfSome, refl, subst, arith}
use Rattle.fr_io.specs.Faults.{Rose, NoneMoves, AnyRose}
use Rattle.fr_io.specs.Shelves.{Holds, Reached, Faults, IsNoneOf, OthersUnread, OthersStay, Reads}

-- what holds whatever is told
pub told_any : {X A : Type 0} (o : Option X) → A → IfSome o (λ _. A)
told_any None a = tt
told_any (Some x) a = a

-- no read: all stands as before
pub none_read : (names : List (List ℕ)) (fault : Type 0) (holds : Holds) (reached : Reached) (counts : Faults) → (fault → ⊥) → Reads names fault holds holds reached reached counts counts
none_read names fault holds reached counts none = record {
  files = λ name. refl;
  unread = λ name apart. refl;
  falls_not = λ name. omega arith;
  rises = λ f. absurd (none f);
  stays = λ _ name. refl;
  others_stay = λ name apart. told_any (holds name) refl;
}

-- the counts of a call that had no fault
pub fine : (names : List (List ℕ)) (fault : Type 0) (holds later : Holds) (reached further : Reached) (before now : Faults) → (fault → ⊥)
    → ((name : List ℕ) → later name ≡ holds name) → OthersUnread names reached further → NoneMoves before now → Reads names fault holds later reached further before now
fine names fault holds later reached further before now none files unread stay = record {
  files = files;
  unread = unread;
  falls_not = λ name. omega (arith, stay name);
  rises = λ f. absurd (none f);
  stays = λ _. stay;
  others_stay = λ name apart. told_any (holds name) (stay name);
}

-- counts that stood before
pub any_rose : (names : List (List ℕ)) (a b c : Faults) → NoneMoves a b → AnyRose names b c → AnyRose names a c
any_rose [] a b c stay h = h
any_rose (f ∷ fs) a b c stay (inl h) = inl (subst (λ n. Rose n (c f)) (stay f) h)
any_rose (f ∷ fs) a b c stay (inr h) = inr (any_rose fs a b c stay h)

others_on : (names : List (List ℕ)) (holds later : Holds) (a b c : Faults) → ((name : List ℕ) → later name ≡ holds name) → NoneMoves a b → OthersStay names later b c → OthersStay names holds a c
others_on names holds later a b c files stay h name apart =
    let told = subst (λ (o : Option (List ℕ)). IfSome o (λ _. c name ≡ b name)) (files name) (h name apart) in
    moved (holds name) (a name) (b name) (c name) (stay name) told
  where
    moved : (o : Option (List ℕ)) (x y z : ℕ) → y ≡ x → IfSome o (λ _. z ≡ y) → IfSome o (λ _. z ≡ x)
    moved None x y z e k = tt
    moved (Some t) x y z e k = k ∙ e

-- one call behind another that had no fault
pub reads_then : {f : Type 0} {names : List (List ℕ)} {fault : Type 0} {h0 h1 h2 : Holds} {r0 r1 r2 : Reached} {c0 c1 c2 : Faults}
    → Reads names f h0 h1 r0 r1 c0 c1 → (f → ⊥) → Reads names fault h1 h2 r1 r2 c1 c2 → Reads names fault h0 h2 r0 r2 c0 c2
reads_then {f} {names} {fault} {h0} {h1} {h2} {r0} {r1} {r2} {c0} {c1} {c2} s none t = record {
  files = λ name. t.files name ∙ s.files name;
  unread = λ name apart. t.unread name apart ∙ s.unread name apart;
  falls_not = λ name. omega (arith, s.falls_not name, t.falls_not name);
  rises = λ x. any_rose names c0 c1 c2 (s.stays none) (t.rises x);
  stays = λ x name. t.stays x name ∙ s.stays none name;
  others_stay = others_on names h0 h1 c0 c1 c2 s.files (s.stays none) t.others_stay;
}

-- the same call among more files
pub reads_among : {names more : List (List ℕ)} {fault : Type 0} {h0 h1 : Holds} {r0 r1 : Reached} {c0 c1 : Faults}
    → ((name : List ℕ) → IsNoneOf name more → IsNoneOf name names) → (AnyRose names c0 c1 → AnyRose more c0 c1)
    → Reads names fault h0 h1 r0 r1 c0 c1 → Reads more fault h0 h1 r0 r1 c0 c1
reads_among apart rose s = record {
  files = s.files;
  unread = λ name a. s.unread name (apart name a);
  falls_not = s.falls_not;
  rises = λ x. rose (s.rises x);
  stays = s.stays;
  others_stay = λ name a. s.others_stay name (apart name a);
}

-- the same call, whose fault is told in other words
pub reads_if : {names : List (List ℕ)} {fault other : Type 0} {h0 h1 : Holds} {r0 r1 : Reached} {c0 c1 : Faults} → (other → fault) → (fault → other)
    → Reads names fault h0 h1 r0 r1 c0 c1 → Reads names other h0 h1 r0 r1 c0 c1
reads_if to from s = record {
  files = s.files;
  unread = s.unread;
  falls_not = s.falls_not;
  rises = λ x. s.rises (to x);
  stays = λ not. s.stays (λ x. not (from x));
  others_stay = s.others_stay;
}
