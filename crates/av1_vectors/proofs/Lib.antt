mod WorkedPlans
