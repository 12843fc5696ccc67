-- Examples of strategies, computed from the definitions: each list has all faults, in the order of the checks.
use Rattle.std.proofs.Common.{◌≡◌, [], ◌∷◌, ◌++◌, true, codes, Some, refl}
use Rattle.std.specs.Prelude.{pos, negsuc}
use Rattle.wf_value.specs.declared.code.Code.TheVariants.{MatrixValue, EmptyList, StrategyMember}
use Rattle.wf_value.specs.declared.scalar.Scalar.TheVariants.{Null, Truth, Whole, Text}
use Rattle.wf_reader.specs.Workflow.{body_value}
use Rattle.wf_reader.specs.Strategy.{strategy_faults, strategy_of}
use Rattle.wf_reader.proofs.OnLiterals.{FaultsAre, wf_reader_on_literals}

of_strategies : FaultsAre (λ text. strategy_faults (body_value text)) (
    -- not an object
    (codes "null", StrategyMember ∷ [])
    -- an empty object
    ∷ (codes "{}", [])
    -- every check, in order
    ∷ (
      codes "{\"x\":1,\"matrix\":{\"n\":[],\"exclude\":5,\"include\":[{},5]}," ++ codes
          "\"max-parallel\":0,\"fail-fast\":null}",
      StrategyMember ∷ StrategyMember ∷ StrategyMember ∷ EmptyList ∷ MatrixValue ∷ MatrixValue ∷ EmptyList ∷ [],
    )
    -- variables in byte order
    ∷ (codes "{\"matrix\":{\"b\":[1,[],9223372036854775808],\"a\":[],\"B\":{}}}", MatrixValue ∷ EmptyList ∷ MatrixValue ∷ MatrixValue ∷ [])
    ∷ [])
unfolding wf_reader_on_literals
of_strategies = refl

whole : strategy_of (body_value (codes "{\"max-parallel\":2,\"matrix\":{\"v\":[null,true,\"t\",-1],\"os\":[1,1]," ++ codes
    "\"include\":[{\"n\":1,\"a\":null}],\"exclude\":[]}}"))
    ≡ record {
      matrix = Some (record {
        variables = (codes "os", Whole (pos 1) ∷ Whole (pos 1) ∷ [])
            ∷ (codes "v", Null ∷ Truth true ∷ Text (codes "t") ∷ Whole (negsuc 0) ∷ []) ∷ [];
        include = ((codes "a", Null) ∷ (codes "n", Whole (pos 1)) ∷ []) ∷ [];
        exclude = [];
      });
      fail_fast = true;
      max_parallel = Some 2;
    }
unfolding wf_reader_on_literals
whole = refl
