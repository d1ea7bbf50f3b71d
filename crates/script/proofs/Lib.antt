mod Pieces
mod NumberLaws
mod PairLaws
mod WhatLaws
mod ArgumentLaws
mod CommandLaws
mod LineLaws
