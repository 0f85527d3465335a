-- Young eras and stores as they grow and end.
use Rattle.std.proofs.Common.{◌≡◌, ◌≢◌, ℕ, ◌+◌, ◌++◌, ◌∷◌, [], List, ◌⊎◌, inl, inr, Option, Some, None, IsSome, Bool, true, false, refl, sym, ap, ◌∙◌, subst, arith}
use Rattle.fr_links.specs.Lists.{has_item}
use Rattle.fr_links.proofs.Has.{by_number, has_append_left, has_append_right, here}
use Rattle.fr_value.specs.declared.ids.EraId.{EraId}
use Rattle.fr_store.specs.declared.node.Node.{Node}
use Rattle.fr_store.specs.Nodes.{Makes, Stored, node_at, node_in}
use Rattle.fr_store.proofs.Tables.{is_there, some_same}
use Rattle.fr_eras.specs.Lives.{AreNew, BeginsEra, IsMember, JoinsEra, Killed, Lives, Under, is_era, members}
use Rattle.fr_eras.specs.Heights.{AreEarlier, AreThere}
use Rattle.fr_eras.proofs.Theres.{made_here, made_other, there_begins, there_joins, there_killed, there_made, there_new}
use Rattle.fr_tests.specs.Nests.{IsYoung}

pub young_new : (lives : Lives) (store : Stored) → AreNew lives → store.nodes ≡ [] → IsYoung lives store
young_new lives store new empty = record {
  there = there_new lives store new;
  program = new.eras 0;
  uncomputed = λ i n h. no_node i n (ap (λ (nodes : List (Option Node)). node_in nodes i) (sym empty) ∙ h);
}
  where
    no_node : {A : Type 0} (i : ℕ) (n : Node) → node_in [] i ≡ Some n → A
    no_node i n e = cc

pub young_grows : (lives grown : Lives) (old new : Stored) (era i : ℕ) (n : Node) → IsYoung lives old → Makes old new i n → n.stamp ≡ None
    → JoinsEra lives grown era i → IsYoung grown new
young_grows lives grown old new era i n young made stamp joins = record {
  there = there_joins lives grown new era i (there_made lives old new i n young.there made) (is_there (node_at new i) n (made_here old new i n made)) joins;
  program = joins.eras 0 ∙ young.program;
  uncomputed = λ j m h. elim (by_number j i) [
    | inl e ↦ (let same : m ≡ n = some_same m n (sym h ∙ ap (node_at new) e ∙ made_here old new i n made) in ap (λ (k : Node). k.stamp) same ∙ stamp)
    | inr other ↦ young.uncomputed j m (sym (made_other old new i n made j other) ∙ h)
  ];
}

pub young_begins : (old new : Lives) (store : Stored) (era : ℕ) → IsYoung old store → BeginsEra old new era → IsYoung new store
young_begins old new store era young b = record {
  there = there_begins old new store era young.there b;
  program = elim (by_number 0 era) [ inl e ↦ ap (is_era new) e ∙ b.here | inr apart ↦ b.eras 0 apart ∙ young.program ];
  uncomputed = young.uncomputed;
}

pub young_earlier : (lives : Lives) (store : Stored) (era : ℕ) → IsYoung lives store → AreEarlier lives store era
young_earlier lives store era young i n stamp under at is latest = clash n (young.uncomputed i n at) is
  where
    clash : (n : Node) → n.stamp ≡ None → n.stamp ≡ Some stamp → ⊥
    clash n e f = cc

pub joined_member : (old new : Lives) (era node : ℕ) → JoinsEra old new era node → IsMember new node
joined_member old new era node joins = record {
  era = era;
  has = subst (λ (xs : List ℕ). has_item xs node ≡ true) (sym joins.here) (has_append_right (members old era) (node ∷ []) node (here node []));
}

pub still_member : (old new : Lives) (era node other : ℕ) → JoinsEra old new era node → IsMember old other → IsMember new other
still_member old new era node other joins member = record {
  era = member.era;
  has = elim (by_number member.era era) [
    | inl e ↦
        subst (λ (xs : List ℕ). has_item xs other ≡ true) (sym (ap (members new) e ∙ joins.here))
        (has_append_left (members old era) (node ∷ []) other (subst (λ (k : ℕ). has_item (members old k) other ≡ true) e member.has))
    | inr apart ↦ subst (λ (xs : List ℕ). has_item xs other ≡ true) (sym (joins.each member.era apart)) member.has
  ];
}

-- an era that isn't owned isn't there
pub owns_none : (b : Bool) → (b ≡ true → IsSome {T = EraId} None) → b ≡ false
owns_none true f = absurd (none (f refl))
  where
    none : IsSome {T = EraId} None → ⊥
    none h = cc
owns_none false f = refl
