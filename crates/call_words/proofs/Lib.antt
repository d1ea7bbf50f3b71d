mod NearLaws
mod SumLaws
mod WrongLaws
